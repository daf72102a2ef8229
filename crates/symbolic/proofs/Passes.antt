-- The invariants of the counting pass and of the filling pass: how each begins, what it may ask, how it turns and ends. Assumes nothing.
use Rattle.std.specs.Prelude.{◌≡◌, ℕ, ◌+◌, ◌*◌, ◌<◌, ◌≤◌, T, List, [], reverse, length, get_or, take, set, replicate}
use mathlib.Core.Path.{refl, sym, ap, ap₂, subst, ◌∙◌}
use native.Mathlib.Omega.{arith}
use native.Mathlib.Numerals.{add-one}
use lib.ListN.{length-replicate, get_or-replicate, length-map}
use lib.Seq.{slice, get_or-take, length-take-le}
use Rattle.graph.specs.Sets.{elem, between, sum, gather, Uniq}
use Rattle.graph.proofs.SumLaws.{sum-ext}
use Rattle.graph.specs.Symbolic as L
use Rattle.graph.proofs.SymbolicLaws.{columns_length}
use Rattle.buckets.specs.Buckets.{appends, scatter, lengths, bumps, stores, Roomy, Held, Laid, before}
use Rattle.buckets.proofs.Lists.{map-replicate}
use Rattle.buckets.proofs.Laws.{appends-lengths, lengths-at, scatter-few, scatter-room, held_none, held-roomy, held-appends, held_all, before-sum, laid_out}
use Rattle.buckets.proofs.Turns.{before_small}
use Rattle.elimination_tree.specs.Tree.{linked_up}
use Rattle.elimination_tree.proofs.Links.{linked-symm}
use Rattle.symbolic.specs.Columns.{Tree, Below, found, columns_of, area, numbers_of}
use Rattle.symbolic.proofs.Numbers.{up_to, up_next, up_all, sum-times, by_columns}
use Rattle.reach.specs.Reach.{reached}
use Rattle.symbolic.proofs.Climbs.{elem-forth}
use Rattle.symbolic.proofs.Walks.{part-reach, part-below}
use Rattle.symbolic.proofs.Columns.{reached-once, reached-rows, columns-made}

-- no stamp is above 0 where all are 0
pub below_none : (stamp : List ℕ) (n : ℕ) → stamp ≡ replicate n 0 → Below 0 stamp
unfolding Below
below_none stamp n e i h =
    let v = ap (λ (l : List ℕ). get_or l i 0) e ∙ get_or-replicate n i 0 0 (subst (λ (m : ℕ). i < m) (ap length e ∙ length-replicate n 0) h) in omega arith

module _ (starts rows : List ℕ) (n : ℕ) where
  -- the columns that reach column j, first found first
  abbrev pub climbed : ℕ → List ℕ
  climbed j = reverse (found starts rows n j)

  -- the columns after j turns
  abbrev pub made : ℕ → List (List ℕ)
  made j = scatter climbed n j

  symm : (a b : ℕ) → T (linked_up starts rows a b) → T (linked_up starts rows b a)
  symm a b t = linked-symm starts rows a b t

  once : (i : ℕ) → i < n → Uniq (climbed i)
  once i h = reached-once (linked_up starts rows) n symm i h

  pub all_made : made n ≡ columns_of starts rows n
  all_made = columns-made (linked_up starts rows) n symm

  -- a column that reaches j is before j, and is not full yet
  pub not_full : (j k : ℕ) → j < n → T (elem k (climbed j)) → (k < n) × (length (get_or (made j) k []) < length (get_or (columns_of starts rows n) k []))
  not_full j k h t =
      let b : k < j = ((reached-rows (linked_up starts rows) n symm j k h).0 t).0 in
      let r = scatter-room climbed n once j k h (omega arith) t in
      (omega arith, subst (λ (c : List (List ℕ)). length (get_or (made j) k []) < length (get_or c k [])) all_made r)

  made-next : (j : ℕ) → made (j + 1) ≡ appends j (climbed j) (made j)
  unfolding scatter
  made-next j = ap made (add-one j)

  -- ---- the scan of column j, lent as `part`, where no stamp is above j

  module _ (parent : List ℕ) (t : Tree n starts rows parent) (j : ℕ) (h : j < n) (stamp : List ℕ) (long : length stamp ≡ n) (b : Below j stamp)
      (part : List ℕ) (lent : part ≡ slice (get_or starts j 0) (get_or starts (j + 1) 0) rows) where
    pub scan-climbed : reverse (reached parent (j + 1) j part (set stamp j (j + 1))).found ≡ climbed j
    scan-climbed = ap reverse (part-reach starts rows n t.pattern.few t.ascends parent t.liu j h stamp long b part lent)

    scan-below : (stamp' : List ℕ) → stamp' ≡ (reached parent (j + 1) j part (set stamp j (j + 1))).stamps → Below (j + 1) stamp'
    scan-below = part-below starts rows n t.pattern.few t.ascends parent t.liu j h stamp long b part lent

    -- what it finds is there, and is not full yet
    scan-room : (k : ℕ) → T (elem k (reached parent (j + 1) j part (set stamp j (j + 1))).found) → (k < n) × (length (get_or (made j) k []) < length (get_or (columns_of starts rows n) k []))
    scan-room k m = not_full j k h (subst (λ (l : List ℕ). T (elem k l)) scan-climbed (elem-forth k (reached parent (j + 1) j part (set stamp j (j + 1))).found m))

  -- ---- the counting pass

  pub record Counting (parent stamp count : List ℕ) (j : ℕ) : Type 0 where
    pub tree : Tree n starts rows parent
    pub sizes : (length stamp ≡ n) × (length count ≡ n)
    pub below : Below j stamp
    pub inside : j ≤ n
    pub same : count ≡ lengths (made j)

  pub count_begins : (parent stamp count : List ℕ) → Tree n starts rows parent → stamp ≡ replicate n 0 → count ≡ replicate n 0 → Counting parent stamp count 0
  unfolding scatter
  count_begins parent stamp count t es ec = record {
    tree = t;
    sizes = (ap length es ∙ length-replicate n 0, ap length ec ∙ length-replicate n 0);
    below = below_none stamp n es;
    inside = omega arith;
    same = ec ∙ sym (map-replicate {A = List ℕ} {B = ℕ} length n []);
  }

  module _ (parent stamp count : List ℕ) (j : ℕ) (g : Counting parent stamp count j) where
    module _ (h : j < n) (part : List ℕ) (lent : part ≡ slice (get_or starts j 0) (get_or starts (j + 1) 0) rows) where
      -- what `count_climbs` asks
      pub count_asks : Roomy (reached parent (j + 1) j part (set stamp j (j + 1))).found count 4294967295
      unfolding Roomy
      count_asks k m =
          let r = scan-room parent g.tree j h stamp g.sizes.0 g.below part lent k m in
          let few = scatter-few climbed n once j k (omega arith) r.0 in
          let v : get_or count k 0 ≡ length (get_or (made j) k []) = ap (λ (l : List ℕ). get_or l k 0) g.same ∙ lengths-at (made j) k in
          (omega (arith, g.sizes.1), omega (arith, g.tree.pattern.few))

      pub count_turns : (stamp' count' : List ℕ) → length stamp' ≡ n → length count' ≡ n → stamp' ≡ (reached parent (j + 1) j part (set stamp j (j + 1))).stamps
          → count' ≡ bumps (reverse (reached parent (j + 1) j part (set stamp j (j + 1))).found) count → Counting parent stamp' count' (j + 1)
      count_turns stamp' count' ls lc es ec = record {
        tree = g.tree;
        sizes = (ls, lc);
        below = scan-below parent g.tree j h stamp g.sizes.0 g.below part lent stamp' es;
        inside = omega arith;
        same = ec ∙ ap (λ (l : List ℕ). bumps l count) (scan-climbed parent g.tree j h stamp g.sizes.0 g.below part lent)
            ∙ ap (bumps (climbed j)) g.same ∙ sym (appends-lengths j (climbed j) (made j)) ∙ ap lengths (sym (made-next j));
      }

    pub count_ends : n ≤ j → count ≡ lengths (columns_of starts rows n)
    count_ends h = let all : j ≡ n = omega (arith, g.inside) in g.same ∙ ap (λ (m : ℕ). lengths (made m)) all ∙ ap lengths all_made

  -- ---- the numbers of L, added up in the counting pass

  pub record Numbering (sizes : List ℕ) (numbers j : ℕ) : Type 0 where
    pub sum_so_far : numbers ≡ up_to (λ i. sum (climbed i) (area sizes i)) j
    pub small : numbers ≤ 1048576 * j

  pub number_begins : (sizes : List ℕ) → Numbering sizes 0 0
  number_begins sizes = record { sum_so_far = refl; small = omega arith }

  module _ (sizes : List ℕ) (numbers j : ℕ) (g : Numbering sizes numbers j) where
    pub number_turns : (d r : ℕ) → d ≡ get_or sizes j 0 → r ≡ sum (climbed j) (λ k. get_or sizes k 0) → d * r ≤ 1048576 → Numbering sizes (numbers + d * r) (j + 1)
    number_turns d r ed er le = record {
      sum_so_far = ap₂ ◌+◌ g.sum_so_far (ap₂ ◌*◌ ed er ∙ sym (sum-times (get_or sizes j 0) (climbed j) (λ k. get_or sizes k 0))) ∙ sym (up_next (λ i. sum (climbed i) (area sizes i)) j);
      small = omega (arith, g.small);
    }

    pub number_ends : j ≤ n → n ≤ j → numbers ≡ numbers_of (linked_up starts rows) n sizes
    number_ends a b =
        g.sum_so_far ∙ up_all (λ i. sum (climbed i) (area sizes i)) n j a b ∙ by_columns (linked_up starts rows) n symm (area sizes)

  -- ---- the filling pass

  -- the places of column k
  abbrev pub size : ℕ → ℕ
  size k = length (get_or (columns_of starts rows n) k [])

  pub record Filling (parent heads stamp next table : List ℕ) (j : ℕ) : Type 0 where
    pub tree : Tree n starts rows parent
    pub stamps : length stamp ≡ n
    pub small : length table < 4294967296
    pub first : get_or heads 0 0 ≡ 0
    pub below : Below j stamp
    pub inside : j ≤ n
    pub held : Held n size heads next table (made j)

  pub fill_begins : (parent heads stamp next table : List ℕ) → Tree n starts rows parent → stamp ≡ replicate n 0
      → Laid (columns_of starts rows n) heads (length table) → next ≡ take n heads → Filling parent heads stamp next table 0
  unfolding scatter
  fill_begins parent heads stamp next table t es l en =
      let c = columns_length (linked_up starts rows) n n in
      record {
        tree = t;
        stamps = ap length es ∙ length-replicate n 0;
        small = l.small;
        first = l.first;
        below = below_none stamp n es;
        inside = omega arith;
        held = held_none n size heads next table (ap length en ∙ length-take-le n heads (omega (arith, l.count)))
            (λ k h. l.laid k (omega arith)) (ap (λ (m : ℕ). get_or heads m 0) (sym c) ∙ l.whole)
            (λ k h. ap (λ (x : List ℕ). get_or x k 0) en ∙ get_or-take n heads k 0 h);
      }

  module _ (parent heads stamp next table : List ℕ) (j : ℕ) (g : Filling parent heads stamp next table j) where
    module _ (h : j < n) (part : List ℕ) (lent : part ≡ slice (get_or starts j 0) (get_or starts (j + 1) 0) rows) where
      -- what `store_climbs` asks
      pub fill_asks : Roomy (reached parent (j + 1) j part (set stamp j (j + 1))).found next (length table)
      fill_asks = held-roomy n size heads next table (made j) g.held (reached parent (j + 1) j part (set stamp j (j + 1))).found (scan-room parent g.tree j h stamp g.stamps g.below part lent)

      pub fill_turns : (stamp' next' table' : List ℕ) → length stamp' ≡ n → length table' ≡ length table → stamp' ≡ (reached parent (j + 1) j part (set stamp j (j + 1))).stamps
          → next' ≡ bumps (reverse (reached parent (j + 1) j part (set stamp j (j + 1))).found) next → table' ≡ stores j (reverse (reached parent (j + 1) j part (set stamp j (j + 1))).found) next table
          → Filling parent heads stamp' next' table' (j + 1)
      fill_turns stamp' next' table' ls lt es en et =
          let e = scan-climbed parent g.tree j h stamp g.stamps g.below part lent in
          record {
            tree = g.tree;
            stamps = ls;
            small = subst (λ (m : ℕ). m < 4294967296) (sym lt) g.small;
            first = g.first;
            below = scan-below parent g.tree j h stamp g.stamps g.below part lent stamp' es;
            inside = omega arith;
            held = subst (Held n size heads next' table') (sym (made-next j))
                (rw (en, et, e) (held-appends n size heads next table (made j) g.held j (climbed j) (once j h) (λ k m. not_full j k h m)));
          }

    pub fill_ends : n ≤ j → table ≡ gather (L.rows (linked_up starts rows) n) (between 0 n)
    unfolding L.rows
    fill_ends h =
        let all : j ≡ n = omega (arith, g.inside) in
        let same : made j ≡ columns_of starts rows n = ap made all ∙ all_made in
        held_all n size heads next table (made j) g.held (λ k b. ap (λ (c : List (List ℕ)). length (get_or c k [])) same) g.first
        ∙ ap (λ (c : List (List ℕ)). gather (λ k. get_or c k []) (between 0 n)) same

  -- ---- the layout

  module _ (count : List ℕ) (few : n ≤ 4096) (e : count ≡ lengths (columns_of starts rows n)) where
    pub counts_length : length count ≡ n
    counts_length = ap length e ∙ length-map {A = List ℕ} {B = ℕ} (columns_of starts rows n) length ∙ columns_length (linked_up starts rows) n n

    -- no column has more rows than there are blocks
    pub counts_few : (k : ℕ) → k < length count → get_or count k 0 ≤ 65536
    counts_few k h =
        let b : k < n = subst (λ (m : ℕ). k < m) counts_length h in
        let v : get_or count k 0 ≡ length (get_or (made n) k []) = ap (λ (l : List ℕ). get_or l k 0) e ∙ lengths-at (columns_of starts rows n) k ∙ ap (λ (c : List (List ℕ)). length (get_or c k [])) (sym all_made) in
        let r = scatter-few climbed n once n k (omega arith) b in
        omega arith

    module _ (heads : List ℕ) (total : ℕ) (places : length heads ≡ n + 1) (all : total ≡ before count (length count))
        (listed : (k : ℕ) → k ≤ length count → get_or heads k 0 ≡ before count k) where
      pub layout_total : total ≡ sum (between 0 n) (λ k. length (L.rows (linked_up starts rows) n k))
      unfolding L.rows
      layout_total =
          all ∙ ap (before count) counts_length ∙ before-sum count n
          ∙ sum-ext (between 0 n) (λ i. get_or count i 0) (λ k. length (get_or (columns_of starts rows n) k [])) (λ k m. ap (λ (l : List ℕ). get_or l k 0) e ∙ lengths-at (columns_of starts rows n) k)

      pub layout_laid : Laid (columns_of starts rows n) heads total
      layout_laid =
          let c = columns_length (linked_up starts rows) n n in
          let small = before_small count (length count) counts_few (omega arith) in
          let same : before count (length count) ≡ before (lengths (columns_of starts rows n)) (length (columns_of starts rows n)) =
          ap (λ (l : List ℕ). before l (length count)) e ∙ ap (before (lengths (columns_of starts rows n))) (counts_length ∙ sym c) in
          laid_out (columns_of starts rows n) heads total (places ∙ ap (λ (m : ℕ). m + 1) (sym c)) (omega (arith, counts_length)) (all ∙ same)
          (λ k h. listed k (omega (arith, counts_length)) ∙ ap (λ (l : List ℕ). before l k) e)
