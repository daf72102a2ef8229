-- The walk over stamps (crate reach) finds what the theory's walk finds, in the same order.
-- `Marked`: the blocks that bear the mark are j and those found. Assumes nothing.
use Rattle.std.specs.Prelude.{◌≡◌, ℕ, zero, suc, ◌+◌, ◌-◌, ◌<◌, ◌≤◌, Bool, true, false, ◌||◌, T, eqb, ltb, ◌⊎◌, List, [], ◌∷◌, ◌++◌, length, get_or, take, drop, set}
use mathlib.Core.Path.{refl, sym, ap, subst, ◌∙◌}
use mathlib.Core.Logic.{inl, inr, ⊎_elim}
use mathlib.Core.Option.{Option, none, some}
use native.Mathlib.Nat.{le_refl}
use native.Mathlib.Omega.{arith}
use borrow.Author.Tests.{eq-eqb, ne_eqb, eqb-true}
use lib.Dec.{ltb→lt}
use lib.ListN.{length-set}
use lib.Seq.{slice, get_or-set_same, get_or-set_other, drop_at, length-take-le}
use Rattle.graph.specs.Sets.{elem, keep, filter}
use Rattle.graph.specs.Symbolic.{climb, climbs, reach}
use Rattle.graph.specs.Liu.{tree_parent}
use Rattle.graph.proofs.SetLaws.{decide, is_true, true_of}
use Rattle.graph.proofs.ReachLaws.{climb-stop, climb-go, reach_same}
use Rattle.graph.proofs.TreeLaws.{tree-least}
use Rattle.reach.specs.Reach as code
use Rattle.reach.proofs.Laws as walk
use Rattle.buckets.proofs.Lists.{same?}
use Rattle.elimination_tree.specs.Tree.{root, decode, upper, Ascends, linked_up, parents_of}
use Rattle.elimination_tree.proofs.Laws.{decode-root, decode-block}
use Rattle.symbolic.specs.Columns.{Below}
use Rattle.elimination_tree.proofs.Links.{linked-symm, upper-links, parents-length, parents-back, parents-rule}

-- the table of parents as the theory has it
abbrev pub parent_in : List ℕ → ℕ → Option ℕ
parent_in parent k = decode (get_or parent k 0)

-- no stamp is above `cap`
module _ (n m j cap : ℕ) (top : m ≤ cap) where
  pub record Marked (stamps found : List ℕ) : Type 0 where
    pub count : length stamps ≡ n
    pub low : (i : ℕ) → i < n → get_or stamps i 0 ≤ cap
    pub marks : (i : ℕ) → i < n → eqb (get_or stamps i 0) m ≡ (eqb i j || elem i found)

  or-first : (a b c : Bool) → b ≡ true → true ≡ (a || (b || c))
  or-first true b c e = refl
  or-first false true c e = refl
  or-first false false c e = absurd (is_true e)

  -- marking one more
  pub mark_more : (stamps found : List ℕ) (i : ℕ) → i < n → Marked stamps found → Marked (set stamps i m) (i ∷ found)
  mark_more stamps found i h r = record {
    count = length-set stamps i m ∙ r.count;
    low = λ k b. ⊎_elim
        (λ e. let v : get_or (set stamps i m) k 0 ≡ m = here k e in omega arith)
        (λ e. let v : get_or (set stamps i m) k 0 ≡ get_or stamps k 0 = get_or-set_other stamps i k m 0 e in let l = r.low k b in omega arith)
        (same? k i);
    marks = λ k b. ⊎_elim
        (λ e. eq-eqb (get_or (set stamps i m) k 0) m (here k e) ∙ or-first (eqb k j) (eqb k i) (elem k found) (eq-eqb k i e))
        (λ e. ap (λ (x : ℕ). eqb x m) (get_or-set_other stamps i k m 0 e) ∙ r.marks k b ∙ ap (λ (t : Bool). eqb k j || (t || elem k found)) (sym (ne_eqb k i e)))
        (same? k i);
  }
    where
      here : (k : ℕ) → k ≡ i → get_or (set stamps i m) k 0 ≡ m
      here k e = ap (λ (x : ℕ). get_or (set stamps i m) x 0) e ∙ get_or-set_same stamps i m 0 (subst (λ (x : ℕ). i < x) (sym r.count) h)

  -- what a walk over stamps leaves, beside the theory's list
  pub record Same (s : code.State) (found : List ℕ) : Type 0 where
    pub lists : s.found ≡ found
    pub marked : Marked s.stamps s.found

  climb-none : (par : ℕ → Option ℕ) (f : ℕ) (o : Option ℕ) (found : List ℕ) → o ≡ none → climb par j f o found ≡ found
  unfolding climb
  climb-none par zero o found e = refl
  climb-none par (suc f) none found e = refl
  climb-none par (suc f) (some i) found e = let z : ◌≡◌ {A = ℕ} 0 1 = cc in absurd (omega arith)

  module _ (parent : List ℕ) (size : length parent ≡ n) (tree : code.Parents parent) where
    climb-same : (f i : ℕ) (s : code.State) → i < n → Marked s.stamps s.found → Same (code.climb f parent m i s) (climb (parent_in parent) j f (some i) s.found)
    unfolding code.climb climb code.Parents
    climb-same zero i s h r = record { lists = refl; marked = r }
    climb-same (suc f) i s h r = go (decide (eqb (get_or s.stamps i 0) m)) (λ up s' r'. climb-same f (get_or parent i 0) s' up r')
      where
        next : code.State
        next = code.mark_at m i s

        go : T (eqb (get_or s.stamps i 0) m) ⊎ (T (eqb (get_or s.stamps i 0) m) → ⊥)
            → (get_or parent i 0 < n → (s' : code.State) → Marked s'.stamps s'.found → Same (code.climb f parent m (get_or parent i 0) s') (climb (parent_in parent) j f (some (get_or parent i 0)) s'.found))
            → Same (code.climb (suc f) parent m i s) (climb (parent_in parent) j (suc f) (some i) s.found)
        go (inl t) ih =
            let a : code.climb (suc f) parent m i s ≡ s = walk.climb-stop (suc f) parent m i s (omega arith) (eqb-true (get_or s.stamps i 0) m (true_of (eqb (get_or s.stamps i 0) m) t)) in
            let b = climb-stop (parent_in parent) j f i s.found (subst (λ (x : Bool). T x) (r.marks i h) t) in
            subst (λ (x : code.State). Same x (climb (parent_in parent) j (suc f) (some i) s.found)) (sym a) (record { lists = sym b; marked = r })
        go (inr t) ih = ⊎_elim
            (λ e.
            let a : code.climb (suc f) parent m i s ≡ code.mark_at m i s = walk.climb-root (suc f) parent m i s (omega arith) new e in
            subst (λ (x : code.State). Same x (climb (parent_in parent) j (suc f) (some i) s.found)) (sym a)
            (record { lists = sym (b ∙ climb-none (parent_in parent) f (parent_in parent i) (i ∷ s.found) (decode-root (get_or parent i 0) e)); marked = more }))
            (λ e.
            let a : code.climb (suc f) parent m i s ≡ code.climb f parent m (get_or parent i 0) (code.mark_at m i s) =
            walk.climb-up (suc f) parent m i s (omega arith) new e ∙ ap (λ (x : ℕ). code.climb x parent m (get_or parent i 0) (code.mark_at m i s)) one in
            let up : get_or parent i 0 < n = above e in
            let b' = b ∙ ap (λ (o : Option ℕ). climb (parent_in parent) j f o (i ∷ s.found)) (decode-block (get_or parent i 0) e) in
            subst (λ (x : code.State). Same x (climb (parent_in parent) j (suc f) (some i) s.found)) (sym a)
            (subst (λ (l : List ℕ). Same (code.climb f parent m (get_or parent i 0) (code.mark_at m i s)) l) (sym b') (ih up (code.mark_at m i s) more)))
            (same? (get_or parent i 0) root)
          where
            new : get_or s.stamps i 0 ≡ m → ⊥
            new e = t (is_true (eq-eqb (get_or s.stamps i 0) m e))

            one : suc f - 1 ≡ f
            one = omega arith

            b : climb (parent_in parent) j (suc f) (some i) s.found ≡ climb (parent_in parent) j f (parent_in parent i) (i ∷ s.found)
            b = climb-go (parent_in parent) j f i s.found (λ x. t (subst (λ (y : Bool). T y) (sym (r.marks i h)) x))

            more : Marked (set s.stamps i m) (i ∷ s.found)
            more = mark_more s.stamps s.found i h r

            above : (get_or parent i 0 ≡ root → ⊥) → get_or parent i 0 < n
            above e = subst (λ (x : ℕ). get_or parent i 0 < x) size (⊎_elim (λ z. absurd (e z)) (λ z. z.1) (tree i (subst (λ (x : ℕ). i < x) (sym size) h)))

    -- the scan of a column
    scan-same : (rows : List ℕ) (s : code.State) → j < n → Marked s.stamps s.found
        → Same (code.scanned parent m j rows s) (climbs (parent_in parent) j n (filter (λ i. ltb i j) rows) s.found)
    unfolding code.scanned climbs
    scan-same [] s h r = record { lists = refl; marked = r }
    scan-same (i ∷ rows) s h r = go (ltb i j) refl (λ s' r'. scan-same rows s' h r')
      where
        go : (b : Bool) → ltb i j ≡ b
            → ((s' : code.State) → Marked s'.stamps s'.found → Same (code.scanned parent m j rows s') (climbs (parent_in parent) j n (filter (λ i. ltb i j) rows) s'.found))
            → Same (code.scanned parent m j rows (code.pick b (code.climb (length parent) parent m i s) s)) (climbs (parent_in parent) j n (keep b i (filter (λ i. ltb i j) rows)) s.found)
        go false e ih = ih s r
        go true e ih =
            let low : i < j = ltb→lt i j (is_true e) in
            let c = climb-same (length parent) i s (omega arith) r in
            let l : (code.climb (length parent) parent m i s).found ≡ climb (parent_in parent) j n (some i) s.found =
            c.lists ∙ ap (λ (x : ℕ). climb (parent_in parent) j x (some i) s.found) size in
            subst (λ (x : List ℕ). Same (code.scanned parent m j rows (code.climb (length parent) parent m i s)) (climbs (parent_in parent) j n (filter (λ i. ltb i j) rows) x)) l (ih (code.climb (length parent) parent m i s) c.marked)

-- ---- the walk for column j of an upper pattern, over Liu's table

module _ (starts rows : List ℕ) (n : ℕ) (few : n ≤ 4096) (inc : Ascends n starts rows) where
  abbrev links : ℕ → ℕ → Bool
  links = linked_up starts rows

  abbrev symm : (a b : ℕ) → T (linked_up starts rows a b) → T (linked_up starts rows b a)
  symm a b t = linked-symm starts rows a b t

  -- Liu's table is a table of parents
  pub tree-rule : (parent : List ℕ) → parent ≡ parents_of links n → code.Parents parent
  unfolding code.Parents
  tree-rule parent e = rw e (λ k h. rule k (subst (λ (x : ℕ). k < x) (parents-length links n symm) h))
    where
      rule : (k : ℕ) → k < n → (get_or (parents_of links n) k 0 ≡ root) ⊎ ((k < get_or (parents_of links n) k 0) × (get_or (parents_of links n) k 0 < length (parents_of links n)))
      rule k h = subst (λ (x : ℕ). (get_or (parents_of links n) k 0 ≡ root) ⊎ ((k < get_or (parents_of links n) k 0) × (get_or (parents_of links n) k 0 < x))) (sym (parents-length links n symm)) (parents-rule links n symm few k h)

  -- the walk with a mark m that no stamp bears
  module _ (parent : List ℕ) (liu : parent ≡ parents_of links n) (j : ℕ) (h : j < n) (m cap : ℕ) (top : m ≤ cap) (stamps : List ℕ) (count : length stamps ≡ n)
      (low : (i : ℕ) → i < n → get_or stamps i 0 ≤ cap) (fresh : (i : ℕ) → i < n → get_or stamps i 0 ≡ m → ⊥) where
    -- at the start j alone bears the mark
    start : Marked n m j cap top (set stamps j m) []
    start = record {
      count = length-set stamps j m ∙ count;
      low = λ i b. ⊎_elim (λ e. let v = at i e in omega arith) (λ e. let v = other i e in let l = low i b in omega arith) (same? i j);
      marks = λ i b. ⊎_elim
          (λ e. eq-eqb (get_or (set stamps j m) i 0) m (at i e) ∙ ap (λ (x : Bool). x || false) (sym (eq-eqb i j e)))
          (λ e. ne_eqb (get_or (set stamps j m) i 0) m (λ z. fresh i b (sym (other i e) ∙ z)) ∙ ap (λ (x : Bool). x || false) (sym (ne_eqb i j e)))
          (same? i j);
    }
      where
        at : (i : ℕ) → i ≡ j → get_or (set stamps j m) i 0 ≡ m
        at i e = ap (λ (x : ℕ). get_or (set stamps j m) x 0) e ∙ get_or-set_same stamps j m 0 (subst (λ (x : ℕ). j < x) (sym count) h)

        other : (i : ℕ) → (i ≡ j → ⊥) → get_or (set stamps j m) i 0 ≡ get_or stamps i 0
        other i e = get_or-set_other stamps j i m 0 e

    pub size : length parent ≡ n
    size = ap length liu ∙ parents-length links n symm

    walked : Same n m j cap top (code.reached parent m j (slice (get_or starts j 0) (get_or starts (j + 1) 0) rows) (set stamps j m)) (climbs (parent_in parent) j n (upper starts rows j) [])
    walked = scan-same n m j cap top parent size (tree-rule parent liu) (slice (get_or starts j 0) (get_or starts (j + 1) 0) rows) (walk.st (set stamps j m) []) h start

    -- what is found is the theory's reach
    pub walk-reach : (code.reached parent m j (slice (get_or starts j 0) (get_or starts (j + 1) 0) rows) (set stamps j m)).found ≡ reach links n (tree_parent links n) j
    unfolding reach Ascends
    walk-reach =
        walked.lists ∙ ap (λ (l : List ℕ). climbs (parent_in parent) j n l []) (upper-links starts rows j (inc j h))
        ∙ sym (reach_same links n j (tree_parent links n) h (λ k b. tree-least links n symm k (omega arith)) symm (parent_in parent)
        (λ k b. sym (ap (λ (l : List ℕ). decode (get_or l k 0)) liu ∙ parents-back links n symm few k (omega arith))))

    -- and no stamp is above the cap
    pub walk-low : (i : ℕ) → i < length (code.reached parent m j (slice (get_or starts j 0) (get_or starts (j + 1) 0) rows) (set stamps j m)).stamps → get_or (code.reached parent m j (slice (get_or starts j 0) (get_or starts (j + 1) 0) rows) (set stamps j m)).stamps i 0 ≤ cap
    walk-low = λ i b. walked.marked.low i (subst (λ (x : ℕ). i < x) walked.marked.count b)

  -- the walk of the plan, whose mark is j + 1
  module _ (parent : List ℕ) (liu : parent ≡ parents_of links n) (j : ℕ) (h : j < n) (stamps : List ℕ) (count : length stamps ≡ n) (below : Below j stamps) where
    low-next : (i : ℕ) → i < n → get_or stamps i 0 ≤ j + 1
    unfolding Below
    low-next i b = let l = below i (subst (λ (x : ℕ). i < x) (sym count) b) in omega arith

    fresh-next : (i : ℕ) → i < n → get_or stamps i 0 ≡ j + 1 → ⊥
    unfolding Below
    fresh-next i b e = let l = below i (subst (λ (x : ℕ). i < x) (sym count) b) in absurd (omega arith)

    next-reach : (code.reached parent (j + 1) j (slice (get_or starts j 0) (get_or starts (j + 1) 0) rows) (set stamps j (j + 1))).found ≡ reach links n (tree_parent links n) j
    next-reach = walk-reach parent liu j h (j + 1) (j + 1) (le_refl (j + 1)) stamps count low-next fresh-next

    -- the stamps are ready for the next column
    next-below : Below (j + 1) (code.reached parent (j + 1) j (slice (get_or starts j 0) (get_or starts (j + 1) 0) rows) (set stamps j (j + 1))).stamps
    unfolding Below
    next-below = walk-low parent liu j h (j + 1) (j + 1) (le_refl (j + 1)) stamps count low-next fresh-next

    -- the same of the column as it is lent, `part`
    module _ (part : List ℕ) (lent : part ≡ slice (get_or starts j 0) (get_or starts (j + 1) 0) rows) where
      pub part-reach : (code.reached parent (j + 1) j part (set stamps j (j + 1))).found ≡ reach links n (tree_parent links n) j
      part-reach = ap (λ (l : List ℕ). (code.reached parent (j + 1) j l (set stamps j (j + 1))).found) lent ∙ next-reach

      pub part-below : (stamps' : List ℕ) → stamps' ≡ (code.reached parent (j + 1) j part (set stamps j (j + 1))).stamps → Below (j + 1) stamps'
      part-below stamps' stamped = subst (Below (j + 1)) (sym (stamped ∙ ap (λ (l : List ℕ). (code.reached parent (j + 1) j l (set stamps j (j + 1))).stamps) lent)) next-below

      -- what the scan says, in the theory's terms
      module _ (out out' stamps' : List ℕ) (top : ℕ) (places : length out ≡ n)
          (filled : top + length (code.reached parent (j + 1) j part (set stamps j (j + 1))).found ≡ length parent)
          (listed : out' ≡ take top out ++ (code.reached parent (j + 1) j part (set stamps j (j + 1))).found)
          (stamped : stamps' ≡ (code.reached parent (j + 1) j part (set stamps j (j + 1))).stamps) where
        ends-within : top ≤ n
        ends-within = omega (arith, size parent liu j h (j + 1) (j + 1) (le_refl (j + 1)) stamps count low-next fresh-next)

        ends_found : drop top out' ≡ reach links n (tree_parent links n) j
        ends_found =
            ap (drop top) listed ∙ drop_at (take top out) (code.reached parent (j + 1) j part (set stamps j (j + 1))).found top (length-take-le top out (omega (arith, ends-within)))
            ∙ part-reach

        pub walk_ends : ((top ≤ n) × (drop top out' ≡ reach links n (tree_parent links n) j)) × Below (j + 1) stamps'
        walk_ends = ((ends-within, ends_found), part-below stamps' stamped)
