-- The pass over the rows, and what the copies make of it. `Filling`: before row j each column that repeats none holds its rows before j,
-- and no column holds more than that. Assumes nothing.
use Rattle.std.specs.Prelude.{◌≡◌, ℕ, zero, suc, ◌+◌, ◌<◌, ◌≤◌, Bool, true, false, T, List, [], ◌∷◌, ◌++◌, reverse, length, get_or, take, drop, set, replicate}
use mathlib.Core.Path.{refl, sym, ap, subst, ◌∙◌}
use mathlib.Core.Logic.{⊎_elim}
use mathlib.Core.List.{append-nil}
use native.Mathlib.Omega.{arith}
use native.Mathlib.Numerals.{add-one}
use lib.ListN.{get_or-replicate, length-replicate, length-drop}
use lib.Seq.{slice, get_or-take, get_or-drop, length-take-le}
use Rattle.graph.specs.Sets.{elem, keep, filter, from, between, gather, Uniq}
use Rattle.graph.specs.Symbolic as L
use Rattle.graph.proofs.SetLaws.{decide, true_of, false_of, filter-elim, filter-intro, filter-inc, from-intro, from-inc, inc-ext}
use Rattle.graph.proofs.SymbolicLaws.{columns_length, rows_ascending}
use Rattle.buckets.specs.Buckets.{appends, bumps, stores, Roomy, Held, Laid}
use Rattle.buckets.proofs.Lists.{filter-snoc, filter_more}
use Rattle.buckets.proofs.Laws.{appends-in, appends-other, held_none, held-roomy, held-appends, held_all, length-snoc}
use Rattle.elimination_tree.specs.Tree.{linked_up}
use Rattle.reach.specs.Reach.{reached}
use Rattle.symbolic.specs.Columns.{Tree, Below, columns_of}
use Rattle.symbolic.proofs.Climbs.{elem_back, elem-forth, uniq-back}
use Rattle.symbolic.proofs.Passes.{below_none}
use Rattle.fill_rows.specs.Repeats.{Rising, rows_in, repeats, top_of, Onward, Copied}
use Rattle.fill_rows.proofs.Columns.{symm, row-fills, fills-row, column-repeats, repeats-child, up_least, blocks}
use Rattle.fill_rows.proofs.Onward.{repeats?}
use Rattle.fill_rows.proofs.Climbs.{found_below, found_rows, found_once, found_tops}

module _ (starts rows : List ℕ) (n : ℕ) where
  -- the places of column k
  abbrev pub size : ℕ → ℕ
  size k = length (L.rows (linked_up starts rows) n k)

  -- the rows of column k before j
  abbrev before : ℕ → ℕ → List ℕ
  before k j = filter (λ i. elem i (L.rows (linked_up starts rows) n k)) (from 0 j)

  -- what the starts say
  module _ (heads : List ℕ) (total : ℕ) (l : Laid (columns_of starts rows n) heads total) where
    count : length (columns_of starts rows n) ≡ n
    count = columns_length (linked_up starts rows) n n

    pub heads-length : length heads ≡ n + 1
    heads-length = l.count ∙ ap (λ (m : ℕ). m + 1) count

    pub heads-laid : (k : ℕ) → k < n → get_or heads (k + 1) 0 ≡ get_or heads k 0 + size k
    unfolding L.rows
    heads-laid k h = l.laid k (subst (λ (m : ℕ). k < m) (sym count) h)

    pub heads-whole : get_or heads n 0 ≡ total
    heads-whole = ap (λ (m : ℕ). get_or heads m 0) (sym count) ∙ l.whole

    pub heads-rise : Rising n heads
    heads-rise = record { count = heads-length; rising = λ k h. let a = heads-laid k h in omega arith }

    pub heads-rows : (k : ℕ) → k < n → rows_in heads k ≡ size k
    heads-rows k h = let a = heads-laid k h in omega arith

  pub record Filling (parent heads onward stamp next table : List ℕ) (j : ℕ) : Type 0 where
    pub tree : Tree n starts rows parent
    pub on : Onward parent heads onward
    pub stamps : length stamp ≡ n
    pub laid : Laid (columns_of starts rows n) heads (length table)
    pub below : Below j stamp
    pub inside : j ≤ n
    pub buckets : List (List ℕ)
    pub held : Held n size heads next table buckets
    pub few : (k : ℕ) → k < n → length (get_or buckets k []) ≤ length (before k j)
    pub tops : (k : ℕ) → k < n → repeats parent heads k ≡ false → get_or buckets k [] ≡ before k j

  pub fill_begins : (parent heads onward stamp next table : List ℕ) → Tree n starts rows parent → Onward parent heads onward → stamp ≡ replicate n 0
      → Laid (columns_of starts rows n) heads (length table) → next ≡ take n heads → Filling parent heads onward stamp next table 0
  fill_begins parent heads onward stamp next table t o es l en = record {
    tree = t;
    on = o;
    stamps = ap length es ∙ length-replicate n 0;
    laid = l;
    below = below_none stamp n es;
    inside = omega arith;
    buckets = replicate n [];
    held = held_none n size heads next table (ap length en ∙ length-take-le n heads (let c = heads-length heads (length table) l in omega arith))
        (heads-laid heads (length table) l) (heads-whole heads (length table) l)
        (λ k h. ap (λ (x : List ℕ). get_or x k 0) en ∙ get_or-take n heads k 0 h);
    few = λ k h. let z : length (get_or (replicate n []) k []) ≡ 0 = ap {A = List ℕ} length (get_or-replicate n k [] [] h) in omega arith;
    tops = λ k h e. get_or-replicate n k [] [] h;
  }

  module _ (parent heads onward stamp next table : List ℕ) (j : ℕ) (g : Filling parent heads onward stamp next table j) where
    -- all the rows of a column
    all-rows : (k : ℕ) → k < n → before k n ≡ L.rows (linked_up starts rows) n k
    all-rows k b = inc-ext (before k n) (L.rows (linked_up starts rows) n k) (filter-inc (λ i. elem i (L.rows (linked_up starts rows) n k)) (from 0 n) (from-inc 0 n)) (rows_ascending (linked_up starts rows) n (symm starts rows n parent g.tree) k b)
        (λ i m. (filter-elim (λ i. elem i (L.rows (linked_up starts rows) n k)) i (from 0 n) m).1)
        (λ i m. let r = row-fills starts rows n parent g.tree k i b m in filter-intro (λ i. elem i (L.rows (linked_up starts rows) n k)) i (from 0 n) (from-intro i 0 n (omega arith) (omega (arith, r.1))) m)

    module _ (h : j < n) (part : List ℕ) (lent : part ≡ slice (get_or starts j 0) (get_or starts (j + 1) 0) rows) (at : ℕ) (place : at ≡ top_of parent heads onward j) where
      -- what the climbs find
      abbrev found : List ℕ
      found = (reached onward (j + 1) j part (set stamp at (j + 1))).found

      -- a column found has row j, so it is not full yet
      has : (k : ℕ) → T (elem k found) → (k < n) × T (elem j (L.rows (linked_up starts rows) n k))
      has k m =
          let r = found_rows starts rows n parent g.tree heads onward g.on j h stamp g.stamps g.below part lent at place k m in
          (omega (arith, r.0), fills-row starts rows n parent g.tree k j r.0 h r.1)

      room : (k : ℕ) → T (elem k found) → (k < n) × (length (get_or g.buckets k []) < size k)
      room k m =
          let r = has k m in
          let a = filter_more (λ i. elem i (L.rows (linked_up starts rows) n k)) j n h r.1 in
          let b = g.few k r.0 in
          let c = ap {A = List ℕ} length (all-rows k r.0) in
          (r.0, omega arith)

      -- what `store_climbs` asks
      pub fill_asks : Roomy found next (length table)
      fill_asks = held-roomy n size heads next table g.buckets g.held found room

      -- one row more
      one_more : (k : ℕ) → before k (j + 1) ≡ before k j ++ keep (elem j (L.rows (linked_up starts rows) n k)) j []
      one_more k = ap (before k) (add-one j) ∙ filter-snoc (λ i. elem i (L.rows (linked_up starts rows) n k)) j

      pub fill_turns : (stamp' next' table' : List ℕ) → length stamp' ≡ n → length table' ≡ length table → stamp' ≡ (reached onward (j + 1) j part (set stamp at (j + 1))).stamps
          → next' ≡ bumps (reverse found) next → table' ≡ stores j (reverse found) next table → Filling parent heads onward stamp' next' table' (j + 1)
      fill_turns stamp' next' table' ls lt es en et = record {
        tree = g.tree;
        on = g.on;
        stamps = ls;
        laid = subst (Laid (columns_of starts rows n) heads) (sym lt) g.laid;
        below = found_below starts rows n parent g.tree heads onward g.on j h stamp g.stamps g.below part lent at place stamp' es;
        inside = omega arith;
        buckets = appends j (reverse found) g.buckets;
        held = rw (en, et) (held-appends n size heads next table g.buckets g.held j (reverse found) once (λ k m. room k (elem_back k found m)));
        few = λ k b. ⊎_elim
            (λ m. let a = ap {A = List ℕ} length (got k b m) ∙ length-snoc (get_or g.buckets k []) j in let c = ap {A = List ℕ} length (grown k m) ∙ length-snoc (before k j) j in let d = g.few k b in omega arith)
            (λ m. let a = ap {A = List ℕ} length (appends-other j (reverse found) g.buckets k m) in let c = no_less k in let d = g.few k b in omega arith)
            (decide (elem k (reverse found)));
        tops = λ k b e. ⊎_elim
            (λ m. got k b m ∙ ap (λ (l : List ℕ). l ++ (j ∷ [])) (g.tops k b e) ∙ sym (grown k m))
            (λ m. appends-other j (reverse found) g.buckets k m ∙ g.tops k b e ∙ sym (one_more k ∙ ap (λ (c : Bool). before k j ++ keep c j []) (false_of (elem j (L.rows (linked_up starts rows) n k)) (λ i. m (elem-forth k found (finds k b e i)))) ∙ append-nil (before k j)))
            (decide (elem k (reverse found)));
      }
        where
          once : Uniq (reverse found)
          once = uniq-back found (found_once starts rows n parent g.tree heads onward g.on j h stamp g.stamps g.below part lent at place)

          got : (k : ℕ) → k < n → T (elem k (reverse found)) → get_or (appends j (reverse found) g.buckets) k [] ≡ get_or g.buckets k [] ++ (j ∷ [])
          got k b m = appends-in j (reverse found) g.buckets k once (subst (λ (x : ℕ). k < x) (sym g.held.blocks) b) m

          grown : (k : ℕ) → T (elem k (reverse found)) → before k (j + 1) ≡ before k j ++ (j ∷ [])
          grown k m = one_more k ∙ ap (λ (c : Bool). before k j ++ keep c j []) (true_of (elem j (L.rows (linked_up starts rows) n k)) (has k (elem_back k found m)).1)

          no_less : (k : ℕ) → length (before k j) ≤ length (before k (j + 1))
          no_less k = subst (λ (l : List ℕ). length (before k j) ≤ length l) (sym (one_more k)) (by-case (elem j (L.rows (linked_up starts rows) n k)))
            where
              by-case : (c : Bool) → length (before k j) ≤ length (before k j ++ keep c j [])
              by-case true = let a = length-snoc (before k j) j in omega arith
              by-case false = let a = ap {A = List ℕ} length (append-nil (before k j)) in omega arith

          finds : (k : ℕ) → k < n → repeats parent heads k ≡ false → T (elem j (L.rows (linked_up starts rows) n k)) → T (elem k found)
          finds k b e i =
              let r = row-fills starts rows n parent g.tree k j b i in
              found_tops starts rows n parent g.tree heads onward g.on j h stamp g.stamps g.below part lent at place k r.0 r.2 e

    -- ---- the end: the table after the copies

    module _ (e : n ≤ j) (table' : List ℕ) (same : length table' ≡ length table) (c : Copied parent heads table table') where
      abbrev col : ℕ → List ℕ
      col k = L.rows (linked_up starts rows) n k

      long : length parent ≡ n
      long = blocks starts rows n parent g.tree

      inside-tree : (k : ℕ) → k < n → k < length parent
      inside-tree k h = subst (λ (m : ℕ). k < m) (sym long) h

      full : (k : ℕ) → k < n → before k j ≡ col k
      full k b = let all : j ≡ n = omega (arith, g.inside) in ap (before k) all ∙ all-rows k b

      counted : (k : ℕ) → k < n → rows_in heads k ≡ size k
      counted = heads-rows heads (length table) g.laid

      -- column k stands in its places: as it was, or copied from a greater one
      holds : (d k : ℕ) → n ≤ k + d → k < n → (x : ℕ) → x < size k → get_or table' (get_or heads k 0 + x) 0 ≡ get_or (col k) x 0
      holds zero k far h x l = absurd (omega arith)
      holds (suc d) k far h x l = ⊎_elim (copied (λ i. holds d i)) kept (repeats? parent heads k)
        where
          kept : repeats parent heads k ≡ false → get_or table' (get_or heads k 0 + x) 0 ≡ get_or (col k) x 0
          kept z =
              let b : get_or g.buckets k [] ≡ col k = g.tops k h z ∙ full k h in
              let r = counted k h in
              c.kept k (inside-tree k h) z x (omega arith)
              ∙ g.held.entries k x h (subst (λ (y : List ℕ). x < length y) (sym b) l) ∙ ap (λ (y : List ℕ). get_or y x 0) b

          copied : ((i : ℕ) → n ≤ i + d → i < n → (x : ℕ) → x < size i → get_or table' (get_or heads i 0 + x) 0 ≡ get_or (col i) x 0) → repeats parent heads k ≡ true → get_or table' (get_or heads k 0 + x) 0 ≡ get_or (col k) x 0
          copied greater z = go x l
            where
              whole : col k ≡ get_or parent k 0 ∷ col (get_or parent k 0)
              whole = column-repeats starts rows n parent g.tree heads counted k h z

              go : (x : ℕ) → x < size k → get_or table' (get_or heads k 0 + x) 0 ≡ get_or (col k) x 0
              go zero q =
                  let w : get_or heads k 0 + 0 ≡ get_or heads k 0 = omega arith in
                  ap (λ (y : ℕ). get_or table' y 0) w ∙ c.first k (inside-tree k h) z ∙ sym (ap (λ (y : List ℕ). get_or y 0 0) whole)
              go (suc y) q =
                  let u = up_least starts rows n parent g.tree k h (repeats-child parent heads k z) in
                  let a = ap {A = List ℕ} length whole in
                  let r = counted (get_or parent k 0) u.1 in
                  let w : get_or heads k 0 + suc y ≡ get_or heads k 0 + 1 + y = omega arith in
                  ap (λ (v : ℕ). get_or table' v 0) w ∙ c.rest k (inside-tree k h) z y (omega arith)
                  ∙ greater (get_or parent k 0) (omega (arith, u.0)) u.1 y (omega arith) ∙ sym (ap (λ (v : List ℕ). get_or v (suc y) 0) whole)

      -- the table holds the columns in full
      pub fill_ends : table' ≡ gather (L.rows (linked_up starts rows) n) (between 0 n)
      unfolding L.rows
      fill_ends =
          held_all n size heads (drop 1 heads) table' (columns_of starts rows n) (record {
            blocks = columns_length (linked_up starts rows) n n;
            counts = let a = heads-length heads (length table) g.laid in let b = length-drop 1 heads in omega arith;
            laid = heads-laid heads (length table) g.laid;
            whole = heads-whole heads (length table) g.laid ∙ sym same;
            within = λ k h. omega arith;
            free = λ k h. get_or-drop 1 heads k 0 ∙ ap (λ (m : ℕ). get_or heads m 0) (plus k) ∙ heads-laid heads (length table) g.laid k h;
            entries = λ k x h l. holds n k (omega arith) h x l;
          }) (λ k h. refl) g.laid.first
        where
          plus : (k : ℕ) → 1 + k ≡ k + 1
          plus k = omega arith
