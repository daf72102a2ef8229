-- The row subtree theorem (Liu, Davis): the climbs for column j find exactly the columns k < j whose pattern has row j, each once.
-- `parent` may be any table that gives the least row of each column before j: the symbolic columns' own, or that of Liu's algorithm.
use Prim.Native.Nat.{ℕ, zero, suc, ◌+◌, ◌≤◌, ◌<◌}
use mathlib.Core.Bool.{Bool, ◌||◌}
use mathlib.Core.List.{List, [], ◌∷◌}
use mathlib.Core.Option.{Option, none, some}
use mathlib.Core.Logic.{◌⊎◌, inl, inr, ◌↔◌, ⊎_elim}
use mathlib.Core.Path.{◌≡◌, refl, sym, ap, subst, ◌∙◌}
use native.Mathlib.Omega.{arith}
use native.Mathlib.Decide.{dec_lt}
use lib.Dec.{T, eqb, eqb→eq}
use Rattle.graph.specs.Sets.{elem, filter, between, Uniq}
use Rattle.graph.specs.Fill.{Fill, here, made, Least}
use Rattle.graph.specs.Symbolic.{climb, climbs, reach}
use Rattle.graph.proofs.SetLaws.{or_left, or_right, or_cases, true_of, false_of, decide, eqb_of, elem-head, elem-tail, elem-cases, filter-elim, filter-intro, between-elim, between-intro}

-- what o holds, if anything, has the property
abbrev pub Holds : (ℕ → Type 0) → Option ℕ → Type 0
Holds P none = Unit {0}
Holds P (some i) = P i

-- o holds p
abbrev pub Is : ℕ → Option ℕ → Type 0
Is p none = ⊥
Is p (some i) = p ≡ i

pub holds-map : {P Q : ℕ → Type 0} (o : Option ℕ) → ((i : ℕ) → P i → Q i) → Holds P o → Holds Q o
holds-map none f h = tt
holds-map (some i) f h = f i h

-- the two ways a climb goes on
pub climb-stop : (parent : ℕ → Option ℕ) (j steps i : ℕ) (found : List ℕ) → T (eqb i j || elem i found) → climb parent j (suc steps) (some i) found ≡ found
unfolding climb
climb-stop parent j steps i found t = rw (true_of (eqb i j || elem i found) t, climb)

pub climb-go : (parent : ℕ → Option ℕ) (j steps i : ℕ) (found : List ℕ) → (T (eqb i j || elem i found) → ⊥)
    → climb parent j (suc steps) (some i) found ≡ climb parent j steps (parent i) (i ∷ found)
unfolding climb
climb-go parent j steps i found t = rw (false_of (eqb i j || elem i found) t, climb)

module _ (linked : ℕ → ℕ → Bool) (n j : ℕ) (parent : ℕ → Option ℕ) where
  -- a column before j that has row j
  abbrev pub Below : ℕ → Type 0
  Below k = (k < j) × Fill linked j k

  -- what holds before each step of a climb: all that was found is below j, once each; the parent of each of them was found too, or is j or past it,
  -- or is the vertex o to be looked at next; and o is below j or j itself
  pub record Climbing (o : Option ℕ) (found : List ℕ) : Type 0 where
    pub sound : (k : ℕ) → T (elem k found) → Below k
    pub once : Uniq found
    pub closed : (k p : ℕ) → T (elem k found) → parent k ≡ some p → p < j → T (elem p found) ⊎ Is p o
    pub next : Holds (λ i. (i ≡ j) ⊎ Below i) o

  -- what a climb from o leaves
  pub record Climbed (o : Option ℕ) (before after : List ℕ) : Type 0 where
    pub good : Climbing none after
    pub more : (k : ℕ) → T (elem k before) → T (elem k after)
    pub start : Holds (λ i. i < j → T (elem i after)) o

  module _ (lt : j < n) (least : (k : ℕ) → k < j → Least linked n k (parent k)) where
    -- the parent of a column below j is j, or is below j itself
    pub up : (i : ℕ) (o : Option ℕ) → Least linked n i o → Below i → Holds (λ p. (i < p) × ((p ≡ j) ⊎ Below p)) o
    up i none l b = tt
    up i (some p) l b = (l.0, go (dec_lt p j))
      where
        go : Dec (p < j) → (p ≡ j) ⊎ Below p
        go (yes h) = inr (h, made l.0 l.2 b.1)
        go (no h) = let q : p ≤ j = l.3 j b.0 lt b.1 in inl (omega arith)

    -- the vertex looked at is j or past it, or was found: nothing is left to be looked at
    settle : (i : ℕ) (found : List ℕ) → Climbing (some i) found → (i < j → T (elem i found)) → Climbing none found
    settle i found c h =
        record {
          sound = c.sound;
          once = c.once;
          closed = λ k p m e l.
              inl (⊎_elim (λ q. q) (λ q. subst (λ (x : ℕ). T (elem x found)) (sym q) (h (subst (λ (x : ℕ). x < j) q l))) (c.closed k p m e l));
          next = tt;
        }

    -- the vertex looked at is new: it is found, and its parent comes next
    push : (i : ℕ) (found : List ℕ) → Climbing (some i) found → (i ≡ j → ⊥) → (T (elem i found) → ⊥)
        → Climbing (parent i) (i ∷ found) × Holds (λ p. i < p) (parent i)
    push i found c ne new =
        let b : Below i = ⊎_elim (λ e. absurd (ne e)) (λ b. b) c.next in
        let u : Holds (λ p. (i < p) × ((p ≡ j) ⊎ Below p)) (parent i) = up i (parent i) (least i b.0) b in (
          record {
            sound = λ k m. ⊎_elim (λ e. subst Below (sym e) b) (λ m'. c.sound k m') (elem-cases k i found m);
            once = (new, c.once);
            closed = λ k p m e l.
                ⊎_elim (λ q. inr (subst (Is p) (sym (subst (λ (x : ℕ). parent x ≡ some p) q e)) refl))
                (λ m'. inl (⊎_elim (λ q. elem-tail p i found q) (λ q. or_left (eqb p i) (elem p found) (eqb_of q)) (c.closed k p m' e l)))
                (elem-cases k i found m);
            next = holds-map (parent i) (λ p h. h.1) u;
          },
          holds-map (parent i) (λ p h. h.0) u,
        )

    pub climb_good : (steps : ℕ) (o : Option ℕ) (found : List ℕ) → Climbing o found → Holds (λ i. j ≤ i + steps) o
        → Climbed o found (climb parent j steps o found)
    unfolding climb
    climb_good zero none found c e = record { good = c; more = λ k m. m; start = tt }
    climb_good zero (some i) found c e = record { good = settle i found c (λ l. absurd (omega arith)); more = λ k m. m; start = λ l. absurd (omega arith) }
    climb_good (suc steps) none found c e = record { good = c; more = λ k m. m; start = tt }
    climb_good (suc steps) (some i) found c e =
        ⊎_elim (λ t. subst (λ (r : List ℕ). Climbed (some i) found r) (sym (climb-stop parent j steps i found t)) (stop t))
        (λ t. subst (λ (r : List ℕ). Climbed (some i) found r) (sym (climb-go parent j steps i found t))
        (go (climb_good steps (parent i) (i ∷ found) (push' t).0 (holds-map (parent i) (λ p h. omega arith) (push' t).1))))
        (decide (eqb i j || elem i found))
      where
        stop : T (eqb i j || elem i found) → Climbed (some i) found found
        stop t =
            let h : (i < j → T (elem i found)) = λ l. ⊎_elim (λ q. let q' : i ≡ j = eqb→eq i j q in absurd (omega arith)) (λ q. q) (or_cases (eqb i j) (elem i found) t) in
            record { good = settle i found c h; more = λ k m. m; start = h }

        push' : (T (eqb i j || elem i found) → ⊥) → Climbing (parent i) (i ∷ found) × Holds (λ p. i < p) (parent i)
        push' t = push i found c (λ q. t (or_left (eqb i j) (elem i found) (eqb_of q))) (λ q. t (or_right (eqb i j) (elem i found) q))

        go : {r : List ℕ} → Climbed (parent i) (i ∷ found) r → Climbed (some i) found r
        go r = record { good = r.good; more = λ k m. r.more k (elem-tail k i found m); start = λ l. r.more i (elem-head i found) }

    -- a climb begins
    start-climb : (i : ℕ) (found : List ℕ) → Below i → Climbing none found → Climbing (some i) found
    start-climb i found b c =
        record { sound = c.sound; once = c.once; closed = λ k p m e l. ⊎_elim (λ q. inl q) (λ q. absurd q) (c.closed k p m e l); next = inr b }

    none_found : Climbing none []
    none_found = record { sound = λ k m. absurd m; once = tt; closed = λ k p m e l. absurd m; next = tt }

    -- the climbs from each of the starts, all of them linked to j
    pub climbs_good : (is found : List ℕ) → Climbing none found → ((i : ℕ) → T (elem i is) → Below i)
        → Climbing none (climbs parent j n is found) × ((k : ℕ) → T (elem k found) → T (elem k (climbs parent j n is found)))
        × ((i : ℕ) → T (elem i is) → T (elem i (climbs parent j n is found)))
    unfolding climbs
    climbs_good [] found c b = (c, λ k m. m, λ i m. absurd m)
    climbs_good (i ∷ is) found c b =
        let bi : Below i = b i (elem-head i is) in
        let c' : Climbing (some i) found = start-climb i found bi c in
        let r : Climbed (some i) found (climb parent j n (some i) found) = climb_good n (some i) found c' (omega arith) in
        let s = climbs_good is (climb parent j n (some i) found) r.good (λ k m. b k (elem-tail k i is m)) in
        (s.0, λ k m. s.1 k (r.more k m), λ k m. ⊎_elim (λ q. s.1 k (subst (λ (x : ℕ). T (elem x (climb parent j n (some i) found))) (sym q) (r.start bi.0))) (λ m'. s.2 k m') (elem-cases k i is m))

    -- Where a set is closed under parents below j, has k, and column k has row m < j, the set has m: the parents of k lead to m.
    pub leads : (found : List ℕ) → Climbing none found → (d k m : ℕ) → m ≤ k + d → T (elem k found) → k < m → m < j → Fill linked m k → T (elem m found)
    leads found c zero k m b t lm mj f = absurd (omega arith)
    leads found c (suc d) k m b t lm mj f = go (parent k) refl (least k (omega arith)) (λ p b' t' lm' f'. leads found c d p m b' t' lm' mj f')
      where
        go : (o : Option ℕ) → parent k ≡ o → Least linked n k o
            → ((p : ℕ) → m ≤ p + d → T (elem p found) → p < m → Fill linked m p → T (elem m found)) → T (elem m found)
        go none e l rec = absurd (l m lm (omega arith) f)
        go (some p) e l rec =
            let q : p ≤ m = l.3 m lm (omega arith) f in
            let g : k < p = l.0 in
            let tp : T (elem p found) = ⊎_elim (λ x. x) (λ x. absurd x) (c.closed k p t e (omega arith)) in
            at (dec_lt p m) q g tp
          where
            at : Dec (p < m) → p ≤ m → k < p → T (elem p found) → T (elem m found)
            at (yes h) q g tp = rec p (omega arith) tp h (made g l.2 f)
            at (no h) q g tp = let x : p ≡ m = omega arith in subst (λ (y : ℕ). T (elem y found)) x tp

    module _ (symm : (a b : ℕ) → T (linked a b) → T (linked b a)) where
      starts : List ℕ
      starts = filter (λ i. linked i j) (between 0 j)

      starts-below : (i : ℕ) → T (elem i starts) → Below i
      unfolding starts
      starts-below i m = let r = filter-elim (λ i. linked i j) i (between 0 j) m in ((between-elim i 0 j r.0).1, here (symm i j r.1))

      reach-all : Climbing none (reach linked n parent j) × ((k : ℕ) → T (elem k []) → T (elem k (reach linked n parent j)))
          × ((i : ℕ) → T (elem i starts) → T (elem i (reach linked n parent j)))
      unfolding reach starts
      reach-all = climbs_good starts [] none_found starts-below

      complete : (k : ℕ) → k < j → Fill linked j k → T (elem k (reach linked n parent j))
      unfolding starts
      complete k h (here l) = reach-all.2 k (filter-intro (λ i. linked i j) k (between 0 j) (between-intro k 0 j (omega arith) h) (symm j k l))
      complete k h (made {k = m} lt' f g) =
          leads (reach linked n parent j) reach-all.0 k m k (omega arith) (complete m (omega arith) g) lt' h f

      -- the row subtree theorem
      pub reach_iff : (k : ℕ) → T (elem k (reach linked n parent j)) ↔ ((k < j) × Fill linked j k)
      reach_iff k = (λ m. reach-all.0.sound k m, λ h. complete k h.0 h.1)

      pub reach_once : Uniq (reach linked n parent j)
      reach_once = reach-all.0.once

      -- ---- the climbs read the parents of columns before j only: two tables that agree there give the same list, in the same order

      module _ (parent' : ℕ → Option ℕ) (same : (k : ℕ) → k < j → parent k ≡ parent' k) where
        climb-same : (steps : ℕ) (o : Option ℕ) (found : List ℕ) → Climbing o found → climb parent j steps o found ≡ climb parent' j steps o found
        unfolding climb
        climb-same zero o found c = refl
        climb-same (suc steps) none found c = refl
        climb-same (suc steps) (some i) found c = go (λ c'. climb-same steps (parent i) (i ∷ found) c') (decide (eqb i j || elem i found))
          where
            go : (Climbing (parent i) (i ∷ found) → climb parent j steps (parent i) (i ∷ found) ≡ climb parent' j steps (parent i) (i ∷ found))
                → T (eqb i j || elem i found) ⊎ (T (eqb i j || elem i found) → ⊥) → climb parent j (suc steps) (some i) found ≡ climb parent' j (suc steps) (some i) found
            go ih (inl t) = climb-stop parent j steps i found t ∙ sym (climb-stop parent' j steps i found t)
            go ih (inr t) =
                let ne : (i ≡ j → ⊥) = λ q. t (or_left (eqb i j) (elem i found) (eqb_of q)) in
                let b : Below i = ⊎_elim (λ e. absurd (ne e)) (λ b. b) c.next in
                climb-go parent j steps i found t
                ∙ ih (push i found c ne (λ q. t (or_right (eqb i j) (elem i found) q))).0
                ∙ ap (λ (o : Option ℕ). climb parent' j steps o (i ∷ found)) (same i b.0)
                ∙ sym (climb-go parent' j steps i found t)

        climbs-same : (is found : List ℕ) → Climbing none found → ((i : ℕ) → T (elem i is) → Below i) → climbs parent j n is found ≡ climbs parent' j n is found
        unfolding climbs
        climbs-same [] found c b = refl
        climbs-same (i ∷ is) found c b =
            let bi : Below i = b i (elem-head i is) in
            let c' : Climbing (some i) found = start-climb i found bi c in
            climbs-same is (climb parent j n (some i) found) (climb_good n (some i) found c' (omega arith)).good (λ k m. b k (elem-tail k i is m))
            ∙ ap (climbs parent' j n is) (climb-same n (some i) found c')

        pub reach_same : reach linked n parent j ≡ reach linked n parent' j
        unfolding reach starts
        reach_same = climbs-same starts [] none_found starts-below
