-- Laws of lists that the theory of elimination does without. Assumes nothing.
use Prim.Native.Nat.{ℕ, zero, suc, ◌+◌, ◌<◌}
use mathlib.Core.Bool.{Bool, true, false, ◌||◌}
use mathlib.Core.List.{List, [], ◌∷◌, ◌++◌, map, append_assoc, append-nil}
use mathlib.Core.Logic.{⊎_elim}
use mathlib.Core.Path.{◌≡◌, refl, sym, ap, ap₂, ◌∙◌}
use native.Mathlib.Omega.{arith}
use lib.Dec.{T, eqb, ltb, lt→ltb}
use Rattle.graph.specs.Sets.{elem, any, filter, from, gather}
use Rattle.graph.specs.Count.{Triple, triple}
use Rattle.graph.proofs.CountLaws.{same_test}
use Rattle.graph.proofs.SetLaws.{elem-head, elem-tail, elem-cases, filter-elim, filter-intro}

module _ {A : Type 0} where
  pub gather_ext : (f g : ℕ → List A) (l : List ℕ) → ((x : ℕ) → T (elem x l) → f x ≡ g x) → gather f l ≡ gather g l
  gather_ext f g [] h = refl
  gather_ext f g (x ∷ l) h = ap₂ {C = List A} ◌++◌ (h x (elem-head x l)) (gather_ext f g l (λ y m. h y (elem-tail y x l m)))

  -- a run of numbers ends with the last
  pub gather-last : (f : ℕ → List A) (a c : ℕ) → gather f (from a (suc c)) ≡ gather f (from a c) ++ f (a + c)
  gather-last f a zero = let e : a ≡ a + 0 = omega arith in append-nil (f a) ∙ ap f e
  gather-last f a (suc c) =
      let e : suc a + c ≡ a + suc c = omega arith in
      ap (λ (l : List A). f a ++ l) (gather-last f (suc a) c) ∙ sym (append_assoc (f a) (gather f (from (suc a) c)) (f (suc a + c)))
      ∙ ap (λ (m : ℕ). (f a ++ gather f (from (suc a) c)) ++ f m) e

-- the rows that a list of triples works on
abbrev pub works_on : List Triple → List ℕ
works_on ts = map (λ (t : Triple). t.i) ts

elem-of-append : (x : ℕ) (l m : List ℕ) → elem x (l ++ m) ≡ (elem x l || elem x m)
elem-of-append x [] m = refl
elem-of-append x (y ∷ l) m = ap (λ (b : Bool). eqb x y || b) (elem-of-append x l m) ∙ sym (assoc (eqb x y) (elem x l) (elem x m))
  where
    assoc : (a b c : Bool) → ((a || b) || c) ≡ (a || (b || c))
    assoc true b c = refl
    assoc false b c = refl

works-append : (l m : List Triple) → works_on (l ++ m) ≡ works_on l ++ works_on m
works-append [] m = refl
works-append (t ∷ l) m = ap (λ (r : List ℕ). t.i ∷ r) (works-append l m)

works-triples : (j k : ℕ) (l : List ℕ) → works_on (map (triple j k) l) ≡ l
works-triples j k [] = refl
works-triples j k (x ∷ l) = ap (λ (r : List ℕ). x ∷ r) (works-triples j k l)

-- row i past j is worked on exactly when one of the columns ks has it
pub works-sequence : (rows : ℕ → List ℕ) (i j : ℕ) (ks : List ℕ) → j < i
    → elem i (works_on (gather (λ k. map (triple j k) (j ∷ filter (λ i. ltb j i) (rows k))) ks)) ≡ any (λ k. elem i (rows k)) ks
works-sequence rows i j [] h = refl
works-sequence rows i j (k ∷ ks) h =
    ap (elem i) (works-append (map (triple j k) (j ∷ filter (λ i. ltb j i) (rows k))) (gather (λ k. map (triple j k) (j ∷ filter (λ i. ltb j i) (rows k))) ks))
    ∙ elem-of-append i (works_on (map (triple j k) (j ∷ filter (λ i. ltb j i) (rows k)))) (works_on (gather (λ k. map (triple j k) (j ∷ filter (λ i. ltb j i) (rows k))) ks))
    ∙ ap₂ {C = Bool} ◌||◌ (ap (elem i) (works-triples j k (j ∷ filter (λ i. ltb j i) (rows k))) ∙ one) (works-sequence rows i j ks h)
  where
    one : elem i (j ∷ filter (λ i. ltb j i) (rows k)) ≡ elem i (rows k)
    one =
        same_test (elem i (j ∷ filter (λ i. ltb j i) (rows k))) (elem i (rows k))
        (λ t. ⊎_elim (λ (e : i ≡ j). absurd (omega arith)) (λ m. (filter-elim (λ i. ltb j i) i (rows k) m).0) (elem-cases i j (filter (λ i. ltb j i) (rows k)) t))
        (λ t. elem-tail i j (filter (λ i. ltb j i) (rows k)) (filter-intro (λ i. ltb j i) i (rows k) t (lt→ltb j i h)))
