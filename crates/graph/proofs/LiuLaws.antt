-- T4: Liu's algorithm gives the parents.
-- The argument is over any table `parent` of the true parents (the symbolic columns' own will do), which says what an ancestor is.
use Prim.Native.Nat.{ℕ, zero, suc, ◌+◌, ◌≤◌, ◌<◌}
use mathlib.Core.Bool.{Bool}
use mathlib.Core.List.{List, [], ◌∷◌}
use mathlib.Core.Option.{Option, none, some}
use mathlib.Core.Logic.{◌⊎◌, inl, inr, ⊎_elim}
use mathlib.Core.Path.{◌≡◌, refl, sym, subst, ◌∙◌}
use native.Mathlib.Omega.{arith}
use native.Mathlib.Decide.{dec_lt, ℕ_discrete}
use lib.Dec.{T, eqb, eqb→eq, eqb_refl}
use lib.ListN.{length, get_or, set, replicate, length-set, length-replicate}
use lib.Seq.{get_or-set_same, get_or-set_other}
use Rattle.graph.specs.Sets.{elem, filter, between}
use Rattle.graph.specs.Fill.{Fill, here, made, Least}
use Rattle.graph.specs.Liu.{Forest, parent_of, ancestor_of, passed, rooted, walk, walks, forest, tree_parent}
use Rattle.graph.proofs.SetLaws.{true_of, false_of, elem-head, elem-tail, elem-cases, filter-elim, filter-intro, between-elim, between-intro}

-- ---- the steps of a walk

walk-stop : (j steps : ℕ) (f : Forest) → walk j steps j f ≡ f
unfolding walk
walk-stop j zero f = refl
walk-stop j (suc steps) f = rw (true_of (eqb j j) (eqb_refl j), walk)

walk-root : (j steps i : ℕ) (f : Forest) → (i ≡ j → ⊥) → ancestor_of f i ≡ none → walk j (suc steps) i f ≡ rooted j i f
unfolding walk
walk-root j steps i f ne e = rw (false_of (eqb i j) (λ t. ne (eqb→eq i j t)), e, walk)

walk_on : (j steps i a : ℕ) (f : Forest) → (i ≡ j → ⊥) → ancestor_of f i ≡ some a → walk j (suc steps) i f ≡ walk j steps a (passed j i f)
unfolding walk
walk_on j steps i a f ne e = rw (false_of (eqb i j) (λ t. ne (eqb→eq i j t)), e, walk)

-- ---- the true tree

module _ (linked : ℕ → ℕ → Bool) (n : ℕ) (parent : ℕ → Option ℕ) where
  -- a is k or an ancestor of k
  pub data Chain : ℕ → ℕ → Type 0 where
    stay : {k : ℕ} → Chain k k
    up : {k p a : ℕ} → parent k ≡ some p → Chain p a → Chain k a

  pub chain-join : {k a b : ℕ} → Chain k a → Chain a b → Chain k b
  chain-join stay d = d
  chain-join (up e c) d = up e (chain-join c d)

  module _ (least : (k : ℕ) → k < n → Least linked n k (parent k)) where
    parent_is : (k p : ℕ) → k < n → parent k ≡ some p → Least linked n k (some p)
    parent_is k p h e = subst (λ (o : Option ℕ). Least linked n k o) e (least k h)

    -- ancestors ascend, below n
    pub chain-le : {k a : ℕ} → k < n → Chain k a → (k ≤ a) × (a < n)
    chain-le h stay = (omega arith, h)
    chain-le {k} h (up {p = p} e c) = let l = parent_is k p h e in let r = chain-le l.1 c in let q : k < p = l.0 in (omega arith, r.1)

    -- where column k has row j, so has each ancestor of k before j
    pub chain-fill : {j k a : ℕ} → j < n → k < j → Chain k a → a < j → Fill linked j k → Fill linked j a
    chain-fill hj hk stay ha f = f
    chain-fill {j} {k} {a} hj hk (up {p = p} e c) ha f =
        let l = parent_is k p (omega arith) e in
        let r = chain-le l.1 c in
        chain-fill hj (omega arith) c ha (made l.0 l.2 f)

    -- and j is an ancestor of k
    pub fill-chain : (d j k : ℕ) → j < n → k < j → j ≤ k + d → Fill linked j k → Chain k j
    fill-chain zero j k hj hk b f = absurd (omega arith)
    fill-chain (suc d) j k hj hk b f = go (parent k) refl (least k (omega arith)) (λ p g b' f'. fill-chain d j p hj g b' f')
      where
        go : (o : Option ℕ) → parent k ≡ o → Least linked n k o → ((p : ℕ) → p < j → j ≤ p + d → Fill linked j p → Chain p j) → Chain k j
        go none e l rec = absurd (l j hk hj f)
        go (some p) e l rec = at (dec_lt p j)
          where
            at : Dec (p < j) → Chain k j
            at (yes h) = let g : k < p = l.0 in up e (rec p h (omega arith) (made g l.2 f))
            at (no h) =
                let q : p ≤ j = l.3 j hk hj f in
                let x : p ≡ j = omega arith in
                up (subst (λ (y : ℕ). parent k ≡ some y) x e) stay

    -- of two ancestors of k the greater is an ancestor of the other
    pub chain-line : {k a b : ℕ} → k < n → Chain k a → Chain k b → a ≤ b → Chain a b
    chain-line h stay d l = d
    chain-line {k} h (up {p = p} e c) stay l = let q = parent_is k p h e in let r = chain-le q.1 c in let g : k < p = q.0 in absurd (omega arith)
    chain-line {k} {b} h (up {p = p} e c) (up {p = p'} e' d) l =
        let x : p' ≡ p = cc in
        chain-line (parent_is k p h e).1 c (subst (λ (y : ℕ). Chain y b) x d) l

    -- an ancestor past k is at or past k's parent
    pub chain-past : {k a : ℕ} (p : ℕ) → k < n → parent k ≡ some p → Chain k a → k < a → p ≤ a
    chain-past p h e stay l = absurd (omega arith)
    chain-past {k} p h e (up {p = q} e' c) l = let x : q ≡ p = cc in let r = chain-le (parent_is k q h e').1 c in omega arith

    -- ---- one column of the algorithm

    module _ (j : ℕ) (lt : j < n) where
      -- the ancestor of i whose parent is j, if there is one, has it in the table
      abbrev Done : Forest → ℕ → Type 0
      Done f i = (r : ℕ) → Chain i r → parent r ≡ some j → parent_of f r ≡ some j

      -- what holds of the tables all through column j
      pub record Kept (f : Forest) : Type 0 where
        pub sizes : (length f.parent ≡ n) × (length f.ancestor ≡ n)
        pub ancestors : (i a : ℕ) → i < n → ancestor_of f i ≡ some a → (i < a) × (a ≤ j) × Chain i a
        pub sound : (i p : ℕ) → i < n → parent_of f i ≡ some p → parent i ≡ some p
        pub empty : (i : ℕ) → i < n → ancestor_of f i ≡ none → parent_of f i ≡ none
        pub before : (i p : ℕ) → i < n → parent i ≡ some p → p < j → parent_of f i ≡ some p

      -- what a walk finds at i: a vertex whose ancestor is j already is done, or was passed on this walk
      abbrev Marked : Forest → ℕ → Type 0
      Marked f i = (k : ℕ) → k < n → ancestor_of f k ≡ some j → Done f k ⊎ ((k < i) × Chain k i)

      -- what a walk from i leaves
      pub record Walked (i : ℕ) (f g : Forest) : Type 0 where
        pub kept : Kept g
        pub marked : (k : ℕ) → k < n → ancestor_of g k ≡ some j → Done g k
        pub done : Done g i
        pub more : (r : ℕ) → r < n → parent_of f r ≡ some j → parent_of g r ≡ some j

      -- what is done at i < j is done at all that i is an ancestor of
      done-back : (f : Forest) (k i : ℕ) → k < n → i < j → Chain k i → Done f i → Done f k
      done-back f k i hk hi c d r cr e = go (dec_lt r i)
        where
          go : Dec (r < i) → parent_of f r ≡ some j
          go (no h) = d r (chain-line hk c cr (omega arith)) e
          go (yes h) = let q : j ≤ i = chain-past j (chain-le hk cr).1 e (chain-line hk cr c (omega arith)) h in absurd (omega arith)

      -- the table after a store
      stored : (l : List (Option ℕ)) (i k : ℕ) (v : Option ℕ) → i < length l
          → ((k ≡ i) × (get_or (set l i v) k none ≡ v)) ⊎ ((k ≡ i → ⊥) × (get_or (set l i v) k none ≡ get_or l k none))
      stored l i k v h = go (ℕ_discrete k i)
        where
          go : Dec (k ≡ i) → ((k ≡ i) × (get_or (set l i v) k none ≡ v)) ⊎ ((k ≡ i → ⊥) × (get_or (set l i v) k none ≡ get_or l k none))
          go (yes e) = inl (e, subst (λ (x : ℕ). get_or (set l i v) x none ≡ v) (sym e) (get_or-set_same l i v none h))
          go (no e) = inr (e, get_or-set_other l i k v none e)

      -- the tables after a step from i < j that has row j, where i has an ancestor
      pass_kept : (i : ℕ) (f : Forest) → i < j → Fill linked j i → Kept f → Kept (passed j i f)
      pass_kept i f hi fi k =
          let bound : i < length f.ancestor = omega (arith, k.sizes.1) in
          let chain : Chain i j = fill-chain j j i lt hi (omega arith) fi in
          record {
            sizes = (k.sizes.0, length-set f.ancestor i (some j) ∙ k.sizes.1);
            ancestors = λ x a h e.
                ⊎_elim
                (λ s. let q : x ≡ i = s.0 in let w : a ≡ j = cc s.1 in
                (omega arith, omega arith, subst (λ (y : ℕ). Chain x y) (sym w) (subst (λ (y : ℕ). Chain y j) (sym q) chain)))
                (λ s. k.ancestors x a h (cc s.1))
                (stored f.ancestor i x (some j) bound);
            sound = k.sound;
            empty = λ x h e.
                ⊎_elim (λ s. let z : ◌≡◌ {A = ℕ} 0 1 = cc s.1 in absurd (omega arith)) (λ s. k.empty x h (cc s.1))
                (stored f.ancestor i x (some j) bound);
            before = k.before;
          }

      -- and where i has none: then j is its parent
      root-parent : (i : ℕ) (f : Forest) → i < j → Fill linked j i → Kept f → ancestor_of f i ≡ none → parent i ≡ some j
      root-parent i f hi fi k e = go (parent i) refl (least i (omega arith))
        where
          go : (o : Option ℕ) → parent i ≡ o → Least linked n i o → parent i ≡ some j
          go none q l = absurd (l j hi lt fi)
          go (some p) q l = at (dec_lt p j)
            where
              at : Dec (p < j) → parent i ≡ some j
              at (yes h) =
                  let a = k.before i p (omega arith) q h in
                  let b = k.empty i (omega arith) e in
                  let z : ◌≡◌ {A = ℕ} 0 1 = cc in
                  absurd (omega arith)
              at (no h) = let w : p ≤ j = l.3 j hi lt fi in let x : p ≡ j = omega arith in subst (λ (y : ℕ). parent i ≡ some y) x q

      root_kept : (i : ℕ) (f : Forest) → i < j → Fill linked j i → Kept f → parent i ≡ some j → Kept (rooted j i f)
      root_kept i f hi fi k pe =
          let bound : i < length f.parent = omega (arith, k.sizes.0) in
          let bound' : i < length f.ancestor = omega (arith, k.sizes.1) in
          let r : Kept (passed j i f) = pass_kept i f hi fi k in
          record {
            sizes = (length-set f.parent i (some j) ∙ k.sizes.0, r.sizes.1);
            ancestors = r.ancestors;
            sound = λ x p h e.
                ⊎_elim (λ s. let q : x ≡ i = s.0 in cc s.1) (λ s. k.sound x p h (cc s.1)) (stored f.parent i x (some j) bound);
            empty = λ x h e.
                ⊎_elim
                (λ s. let q : x ≡ i = s.0 in
                ⊎_elim (λ t. let z : ◌≡◌ {A = ℕ} 0 1 = cc t.1 in absurd (omega arith)) (λ t. absurd (t.0 q)) (stored f.ancestor i x (some j) bound'))
                (λ s. s.1 ∙ r.empty x h e)
                (stored f.parent i x (some j) bound);
            before = λ x p h e l.
                ⊎_elim (λ s. let q : x ≡ i = s.0 in let w : p ≡ j = cc in absurd (omega arith)) (λ s. s.1 ∙ k.before x p h e l)
                (stored f.parent i x (some j) bound);
          }

      -- a walk that ends at a vertex with no ancestor
      walked-root : (i : ℕ) (f : Forest) → i < j → Fill linked j i → Kept f → Marked f i → ancestor_of f i ≡ none → Walked i f (rooted j i f)
      walked-root i f hi fi k m e =
          record {
            kept = root_kept i f hi fi k pe;
            marked = λ x h q.
                ⊎_elim (λ s. subst (λ (y : ℕ). Done (rooted j i f) y) (sym s.0) done')
                (λ s. ⊎_elim (λ d r c w. more' r (chain-le h c).1 (d r c w)) (λ c. done-back (rooted j i f) x i h hi c.1 done') (m x h (sym s.1 ∙ q)))
                (stored f.ancestor i x (some j) (omega (arith, k.sizes.1)));
            done = done';
            more = more';
          }
        where
          pe : parent i ≡ some j
          pe = root-parent i f hi fi k e

          more' : (r : ℕ) → r < n → parent_of f r ≡ some j → parent_of (rooted j i f) r ≡ some j
          more' r h q = ⊎_elim (λ s. s.1) (λ s. s.1 ∙ q) (stored f.parent i r (some j) (omega (arith, k.sizes.0)))

          done' : Done (rooted j i f) i
          done' r c w = go (dec_lt i r)
            where
              go : Dec (i < r) → parent_of (rooted j i f) r ≡ some j
              go (yes h) =
                  let q : j ≤ r = chain-past j (omega arith) pe c h in
                  let b = chain-le (omega arith) c in
                  let g : r < j = (parent_is r j b.1 w).0 in
                  absurd (omega arith)
              go (no h) =
                  let b = chain-le (omega arith) c in
                  let x : r ≡ i = omega arith in
                  subst (λ (y : ℕ). parent_of (rooted j i f) y ≡ some j) (sym x) (get_or-set_same f.parent i (some j) none (omega (arith, k.sizes.0)))

      -- a walk that comes to j: i was marked before this walk, so it is done
      walked_end : (i : ℕ) (f : Forest) → i < j → Fill linked j i → Kept f → Marked f i → ancestor_of f i ≡ some j → Walked i f (passed j i f)
      walked_end i f hi fi k m e =
          record {
            kept = pass_kept i f hi fi k;
            marked = λ x h q.
                ⊎_elim (λ s. subst (λ (y : ℕ). Done f y) (sym s.0) d)
                (λ s. ⊎_elim (λ w. w) (λ c. done-back f x i h hi c.1 d) (m x h (sym s.1 ∙ q)))
                (stored f.ancestor i x (some j) (omega (arith, k.sizes.1)));
            done = d;
            more = λ r h q. q;
          }
        where
          d : Done f i
          d = ⊎_elim (λ w. w) (λ c. absurd (omega arith)) (m i (omega arith) e)

      pub walk_good : (steps i : ℕ) (f : Forest) → i < j → Fill linked j i → j ≤ i + steps → Kept f → Marked f i → Walked i f (walk j steps i f)
      walk_good zero i f hi fi b k m = absurd (omega arith)
      walk_good (suc steps) i f hi fi b k m =
          go (ancestor_of f i) refl (λ a ha fa b' m'. walk_good steps a (passed j i f) ha fa b' (pass_kept i f hi fi k) m')
        where
          ne : i ≡ j → ⊥
          ne e = omega arith

          go : (o : Option ℕ) → ancestor_of f i ≡ o
              → ((a : ℕ) → a < j → Fill linked j a → j ≤ a + steps → Marked (passed j i f) a → Walked a (passed j i f) (walk j steps a (passed j i f)))
              → Walked i f (walk j (suc steps) i f)
          go none e rec = subst (λ (g : Forest). Walked i f g) (sym (walk-root j steps i f ne e)) (walked-root i f hi fi k m e)
          go (some a) e rec = at (dec_lt a j)
            where
              is : (i < a) × (a ≤ j) × Chain i a
              is = k.ancestors i a (omega arith) e

              at : Dec (a < j) → Walked i f (walk j (suc steps) i f)
              at (no h) =
                  let x : a ≡ j = omega (arith, is.1) in
                  let y : walk j steps a (passed j i f) ≡ passed j i f = subst (λ (z : ℕ). walk j steps z (passed j i f) ≡ passed j i f) (sym x) (walk-stop j steps (passed j i f)) in
                  subst (λ (g : Forest). Walked i f g) (sym (walk_on j steps i a f ne e ∙ y))
                  (walked_end i f hi fi k m (subst (λ (z : ℕ). ancestor_of f i ≡ some z) x e))
              at (yes h) =
                  let l : i < a = is.0 in
                  let m' : Marked (passed j i f) a = λ x hx q.
                  ⊎_elim (λ s. let w : x ≡ i = s.0 in inr (omega arith, subst (λ (y : ℕ). Chain y a) (sym w) is.2))
                  (λ s. ⊎_elim (λ d. inl d) (λ c. inr (omega arith, chain-join c.1 is.2)) (m x hx (sym s.1 ∙ q)))
                  (stored f.ancestor i x (some j) (omega (arith, k.sizes.1))) in
                  let r = rec a h (chain-fill lt hi is.2 h fi) (omega arith) m' in
                  subst (λ (g : Forest). Walked i f g) (sym (walk_on j steps i a f ne e))
                  (record { kept = r.kept; marked = r.marked; done = done-back (walk j steps a (passed j i f)) i a (omega arith) h is.2 r.done; more = r.more })

      -- the walks of column j, from each of the vertices listed
      pub walks_good : (is : List ℕ) (f : Forest) → Kept f → ((k : ℕ) → k < n → ancestor_of f k ≡ some j → Done f k)
          → ((i : ℕ) → T (elem i is) → (i < j) × Fill linked j i)
          → Kept (walks j is f) × ((i : ℕ) → T (elem i is) → Done (walks j is f) i) × ((r : ℕ) → r < n → parent_of f r ≡ some j → parent_of (walks j is f) r ≡ some j)
      unfolding walks
      walks_good [] f k m b = (k, λ i t. absurd t, λ r h q. q)
      walks_good (i ∷ is) f k m b =
          let bi = b i (elem-head i is) in
          let w : Walked i f (walk j j i f) = walk_good j i f bi.0 bi.1 (omega arith) k (λ x h q. inl (m x h q)) in
          let s = walks_good is (walk j j i f) w.kept w.marked (λ x t. b x (elem-tail x i is t)) in (
            s.0,
            λ x t. ⊎_elim (λ q. subst (λ (y : ℕ). Done (walks j is (walk j j i f)) y) (sym q) (λ r c e. s.2 r (chain-le (omega arith) c).1 (w.done r c e))) (λ t'. s.1 x t') (elem-cases x i is t),
            λ r h q. s.2 r h (w.more r h q),
          )

    -- ---- all columns

    -- what holds of the tables before column j
    pub record Ready (j : ℕ) (f : Forest) : Type 0 where
      pub sizes : (length f.parent ≡ n) × (length f.ancestor ≡ n)
      pub ancestors : (i a : ℕ) → i < n → ancestor_of f i ≡ some a → (i < a) × (a < j) × Chain i a
      pub sound : (i p : ℕ) → i < n → parent_of f i ≡ some p → parent i ≡ some p
      pub empty : (i : ℕ) → i < n → ancestor_of f i ≡ none → parent_of f i ≡ none
      pub before : (i p : ℕ) → i < n → parent i ≡ some p → p < j → parent_of f i ≡ some p

    module _ (symm : (a b : ℕ) → T (linked a b) → T (linked b a)) where
      -- a column with row j has a linked column that it is an ancestor of
      chain-start : (j k : ℕ) → j < n → k < j → Fill linked j k → (i : ℕ) × T (elem i (filter (λ i. linked i j) (between 0 j))) × Chain i k
      chain-start j k hj hk (here l) = (k, filter-intro (λ i. linked i j) k (between 0 j) (between-intro k 0 j (omega arith) hk) (symm j k l), stay)
      chain-start j k hj hk (made {k = m} lm f g) =
          let r = chain-start j m hj (omega arith) g in
          (r.0, r.1, chain-join r.2 (fill-chain k k m (omega arith) lm (omega arith) f))

      -- one column
      pub column_ready : (j : ℕ) (f : Forest) → j < n → Ready j f → Ready (suc j) (walks j (filter (λ i. linked i j) (between 0 j)) f)
      column_ready j f hj r =
          record {
            sizes = s.0.sizes;
            ancestors = λ i a h e. let q = s.0.ancestors i a h e in (q.0, omega (arith, q.1), q.2);
            sound = s.0.sound;
            empty = s.0.empty;
            before = λ i p h e l. go i p h e l (dec_lt p j);
          }
        where
          starts : List ℕ
          starts = filter (λ i. linked i j) (between 0 j)

          below : (i : ℕ) → T (elem i starts) → (i < j) × Fill linked j i
          below i m = let q = filter-elim (λ i. linked i j) i (between 0 j) m in ((between-elim i 0 j q.0).1, here (symm i j q.1))

          k : Kept j hj f
          k =
              record {
                sizes = r.sizes;
                ancestors = λ i a h e. let q = r.ancestors i a h e in (q.0, omega (arith, q.1), q.2);
                sound = r.sound;
                empty = r.empty;
                before = r.before;
              }

          s : Kept j hj (walks j starts f) × ((i : ℕ) → T (elem i starts) → Done j hj (walks j starts f) i)
              × ((x : ℕ) → x < n → parent_of f x ≡ some j → parent_of (walks j starts f) x ≡ some j)
          s = walks_good j hj starts f k (λ x h q. absurd (omega (arith, (r.ancestors x j h q).1))) below

          go : (i p : ℕ) → i < n → parent i ≡ some p → p < suc j → Dec (p < j) → parent_of (walks j starts f) i ≡ some p
          go i p h e l (yes b) = s.0.before i p h e b
          go i p h e l (no b) =
              let x : j ≡ p = omega arith in
              let e' : parent i ≡ some j = subst (λ (y : ℕ). parent i ≡ some y) (sym x) e in
              let q = parent_is i j h e' in
              let c = chain-start j i hj q.0 q.2 in
              subst (λ (y : ℕ). parent_of (walks j starts f) i ≡ some y) x (s.1 c.0 c.1 i c.2 e')

      blank : (m i : ℕ) → get_or (replicate {A = Option ℕ} m none) i none ≡ none
      blank zero i = refl
      blank (suc m) zero = refl
      blank (suc m) (suc i) = blank m i

      pub forest_ready : (j : ℕ) → j ≤ n → Ready j (forest linked n j)
      unfolding forest
      forest_ready zero h =
          record {
            sizes = (length-replicate n none, length-replicate n none);
            ancestors = λ i a b e. let q = blank n i in let z : ◌≡◌ {A = ℕ} 0 1 = cc in absurd (omega arith);
            sound = λ i p b e. let q = blank n i in let z : ◌≡◌ {A = ℕ} 0 1 = cc in absurd (omega arith);
            empty = λ i b e. blank n i;
            before = λ i p b e l. absurd (omega arith);
          }
      forest_ready (suc j) h = column_ready j (forest linked n j) h (forest_ready j (omega arith))

      -- T4: the table that the algorithm leaves is that of the parents
      pub tree-parent : (k : ℕ) → k < n → tree_parent linked n k ≡ parent k
      unfolding tree_parent
      tree-parent k h = go (parent_of (forest linked n n) k) refl (parent k) refl (least k h)
        where
          r : Ready n (forest linked n n)
          r = forest_ready n (omega arith)

          go : (o : Option ℕ) → parent_of (forest linked n n) k ≡ o → (q : Option ℕ) → parent k ≡ q → Least linked n k q → parent_of (forest linked n n) k ≡ parent k
          go none e none d l = cc
          go none e (some p) d l = r.before k p h d l.1 ∙ sym d
          go (some p) e q d l = e ∙ sym (r.sound k p h e)
