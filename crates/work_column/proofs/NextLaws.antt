-- An ascending list, by a number j: how many elements are less, where j stands, and what follows it. And the next places, one further.
--     less-there    the elements less than j are as many as the place of j
--     less-more     one more of them are less than j + 1 where j is one of the list
--     from-there    from that place on the list has j, then all that are greater
--     advanced-own    a place listed goes one further
-- Assumes nothing.
use Rattle.std.specs.Prelude.{◌≡◌, ℕ, suc, ◌+◌, ◌<◌, Bool, T, eqb, ltb, ◌⊎◌, List, [], ◌∷◌, length, drop, set}
use mathlib.Core.Logic.{inl, inr, ⊎_elim}
use mathlib.Core.Path.{refl, sym, ap, subst, ◌∙◌}
use native.Mathlib.Omega.{arith}
use lib.Dec.{ltb→lt, lt→ltb}
use lib.ListN.{length-set}
use lib.Seq.{get_or-set_same, get_or-set_other}
use Rattle.graph.specs.Sets.{elem, keep, filter, Inc, Uniq}
use Rattle.graph.proofs.SetLaws.{decide, true_of, false_of, elem-cases, elem-head, elem-tail, eqb_of, or_left}
use Rattle.graph.proofs.SumLaws.{filter-all}
use Rattle.tables.specs.Verdict.{at}
use Rattle.reach_products.specs.Reach.{advanced}
use Rattle.reach_products.proofs.ReachLaws.{advanced-other}

-- how many elements are less than j
abbrev pub less : ℕ → List ℕ → ℕ
less j l = length (filter (λ i. ltb i j) l)

-- one element in front
less-cons : (j x : ℕ) (l : List ℕ) → x < j → less j (x ∷ l) ≡ suc (less j l)
less-cons j x l h = ap (λ (b : Bool). length (keep b x (filter (λ i. ltb i j) l))) (true_of (ltb x j) (lt→ltb x j h))

less-skip : (j x : ℕ) (l : List ℕ) → (x < j → ⊥) → less j (x ∷ l) ≡ less j l
less-skip j x l h = ap (λ (b : Bool). length (keep b x (filter (λ i. ltb i j) l))) (false_of (ltb x j) (λ t. h (ltb→lt x j t)))

-- past j none is less
less_none : (j : ℕ) (l : List ℕ) → ((y : ℕ) → T (elem y l) → y < j → ⊥) → less j l ≡ 0
less_none j [] h = refl
less_none j (x ∷ l) h = less-skip j x l (h x (elem-head x l)) ∙ less_none j l (λ y m. h y (elem-tail y x l m))

pub less-there : (j : ℕ) (l : List ℕ) → Inc l → T (elem j l) → (less j l < length l) × (at l (less j l) ≡ j)
less-there j [] inc m = absurd m
less-there j (x ∷ l) inc m = ⊎_elim here (λ m'. there m' (less-there j l inc.1 m')) (elem-cases j x l m)
  where
    here : j ≡ x → (less j (x ∷ l) < length (x ∷ l)) × (at (x ∷ l) (less j (x ∷ l)) ≡ j)
    here e =
        let z : less j (x ∷ l) ≡ 0 = less-skip j x l (λ h. omega arith) ∙ less_none j l (λ y m h. let g = inc.0 y m in omega arith) in
        subst (λ (p : ℕ). (p < length (x ∷ l)) × (at (x ∷ l) p ≡ j)) (sym z) (omega arith, sym e)

    there : T (elem j l) → (less j l < length l) × (at l (less j l) ≡ j) → (less j (x ∷ l) < length (x ∷ l)) × (at (x ∷ l) (less j (x ∷ l)) ≡ j)
    there m' r =
        let z = less-cons j x l (inc.0 j m') in
        subst (λ (p : ℕ). (p < length (x ∷ l)) × (at (x ∷ l) p ≡ j)) (sym z) (let q = r.0 in omega arith, r.1)

pub less-more : (j : ℕ) (l : List ℕ) → Inc l → T (elem j l) → less (j + 1) l ≡ less j l + 1
less-more j [] inc m = absurd m
less-more j (x ∷ l) inc m = ⊎_elim here (λ m'. there m' (less-more j l inc.1 m')) (elem-cases j x l m)
  where
    here : j ≡ x → less (j + 1) (x ∷ l) ≡ less j (x ∷ l) + 1
    here e =
        let z : less j (x ∷ l) ≡ 0 = less-skip j x l (λ h. omega arith) ∙ less_none j l (λ y m h. let g = inc.0 y m in omega arith) in
        let o : less (j + 1) (x ∷ l) ≡ suc (less (j + 1) l) = less-cons (j + 1) x l (omega arith) in
        let p : less (j + 1) l ≡ 0 = less_none (j + 1) l (λ y m h. let g = inc.0 y m in omega arith) in
        omega arith

    there : T (elem j l) → less (j + 1) l ≡ less j l + 1 → less (j + 1) (x ∷ l) ≡ less j (x ∷ l) + 1
    there m' r =
        let g = inc.0 j m' in
        let z = less-cons j x l g in
        let o = less-cons (j + 1) x l (omega arith) in
        omega arith

pub less-same : (j : ℕ) (l : List ℕ) → (T (elem j l) → ⊥) → less (j + 1) l ≡ less j l
less-same j [] h = refl
less-same j (x ∷ l) h = one (less-same j l (λ m. h (elem-tail j x l m))) (decide (ltb x j))
  where
    one : less (j + 1) l ≡ less j l → T (ltb x j) ⊎ (T (ltb x j) → ⊥) → less (j + 1) (x ∷ l) ≡ less j (x ∷ l)
    one i (inl t) =
        let g : x < j = ltb→lt x j t in
        let z = less-cons j x l g in
        let o = less-cons (j + 1) x l (omega arith) in
        omega arith
    one i (inr f) =
        let ne : x ≡ j → ⊥ = λ e. h (or_left (eqb j x) (elem j l) (eqb_of (sym e))) in
        let ge : x < j → ⊥ = λ q. f (lt→ltb x j q) in
        let z = less-skip j x l ge in
        let o = less-skip (j + 1) x l (λ q. ne (omega arith)) in
        omega arith

pub from-there : (j : ℕ) (l : List ℕ) → Inc l → T (elem j l) → drop (less j l) l ≡ j ∷ filter (λ i. ltb j i) l
from-there j [] inc m = absurd m
from-there j (x ∷ l) inc m = ⊎_elim here (λ m'. there m' (from-there j l inc.1 m')) (elem-cases j x l m)
  where
    here : j ≡ x → drop (less j (x ∷ l)) (x ∷ l) ≡ j ∷ filter (λ i. ltb j i) (x ∷ l)
    here e =
        let z : less j (x ∷ l) ≡ 0 = less-skip j x l (λ h. omega arith) ∙ less_none j l (λ y m h. let g = inc.0 y m in omega arith) in
        ap (λ (p : ℕ). drop p (x ∷ l)) z
        ∙ ap (λ (y : ℕ). y ∷ l) (sym e)
        ∙ ap (λ (r : List ℕ). j ∷ r)
        (sym (ap (λ (b : Bool). keep b x (filter (λ i. ltb j i) l)) (false_of (ltb j x) (λ t. let q : j < x = ltb→lt j x t in omega arith))
        ∙ filter-all (λ i. ltb j i) l (λ y m. lt→ltb j y (let g = inc.0 y m in omega arith))))

    there : T (elem j l) → drop (less j l) l ≡ j ∷ filter (λ i. ltb j i) l → drop (less j (x ∷ l)) (x ∷ l) ≡ j ∷ filter (λ i. ltb j i) (x ∷ l)
    there m' r =
        let g = inc.0 j m' in
        ap (λ (p : ℕ). drop p (x ∷ l)) (less-cons j x l g)
        ∙ r
        ∙ ap (λ (b : Bool). j ∷ keep b x (filter (λ i. ltb j i) l)) (sym (false_of (ltb j x) (λ t. let q : j < x = ltb→lt j x t in omega arith)))

-- ---- the next places, one further

pub advanced-own : (ks next : List ℕ) (k : ℕ) → Uniq ks → T (elem k ks) → k < length next → at (advanced ks next) k ≡ at next k + 1
advanced-own [] next k u m h = absurd m
advanced-own (x ∷ ks) next k u m h =
    ⊎_elim here (λ m'. there m' (advanced-own ks (set next x (at next x + 1)) k u.1 m' (subst (λ (p : ℕ). k < p) (sym (length-set next x (at next x + 1))) h))) (elem-cases k x ks m)
  where
    here : k ≡ x → at (advanced (x ∷ ks) next) k ≡ at next k + 1
    here e =
        subst (λ (y : ℕ). at (advanced ks (set next y (at next y + 1))) k ≡ at next k + 1) e
        (advanced-other ks (set next k (at next k + 1)) k (λ m. u.0 (subst (λ (y : ℕ). T (elem y ks)) e m)) ∙ get_or-set_same next k (at next k + 1) 0 h)

    there : T (elem k ks) → at (advanced ks (set next x (at next x + 1))) k ≡ at (set next x (at next x + 1)) k + 1 → at (advanced (x ∷ ks) next) k ≡ at next k + 1
    there m' r =
        let ne : k ≡ x → ⊥ = λ e. u.0 (subst (λ (y : ℕ). T (elem y ks)) e m') in
        r ∙ ap (λ (p : ℕ). p + 1) (get_or-set_other next x k (at next x + 1) 0 ne)
