-- The test of two tables says whether they are equal. Assumes nothing.
use Rattle.std.specs.Prelude.{◌≡◌, ℕ, ◌+◌, ◌<◌, Bool, true, false, ◌&&◌, eqb, List, [], ◌∷◌, length}
use mathlib.Core.Logic.{⊎_elim}
use mathlib.Core.Path.{refl, sym, ap, ap₂, subst, ◌∙◌}
use native.Mathlib.Omega.{arith}
use borrow.Author.Tests.{eqb-true, eq-eqb}
use lib.Dec.{eqb→eq}
use lib.Seq.{ext_get_or}
use Rattle.std.specs.Cmp.Lexicographic.{pointwise}
use Rattle.graph.proofs.SetLaws.{is_true, is_false, true_of, eqb_of}
use Rattle.graph.proofs.CountLaws.{same_test}
use Rattle.tables.specs.Verdict.{at}
use Rattle.tables.proofs.Bools.{and_left, and_right}
use Rattle.tables.proofs.SearchLaws.{lt-or-ge}
use Rattle.factor_order.specs.Same.{same_list}

pub same-equal : (l m : List ℕ) → same_list l m ≡ true → l ≡ m
unfolding same_list
same-equal [] [] e = refl
same-equal [] (y ∷ m) e = absurd (is_false (sym e) tt)
same-equal (x ∷ l) [] e = absurd (is_false (sym e) tt)
same-equal (x ∷ l) (y ∷ m) e = ap₂ {C = List ℕ} ◌∷◌ (eqb-true x y (and_left (eqb x y) (same_list l m) e)) (same-equal l m (and_right (eqb x y) (same_list l m) e))

same-itself : (l : List ℕ) → same_list l l ≡ true
unfolding same_list
same-itself [] = refl
same-itself (x ∷ l) = rw (eq-eqb x x refl) (same-itself l)

-- the test of two slices is the same
pub pointwise_same : (l m : List ℕ) → pointwise eqb l m ≡ same_list l m
unfolding same_list
pointwise_same [] [] = refl
pointwise_same [] (y ∷ m) = refl
pointwise_same (x ∷ l) [] = refl
pointwise_same (x ∷ l) (y ∷ m) = ap (λ b. eqb x y && b) (pointwise_same l m)

module _ (l m : List ℕ) where
  pub equal-same : l ≡ m → true ≡ same_list l m
  equal-same e = sym (subst (λ (x : List ℕ). same_list l x ≡ true) e (same-itself l))

  pub differ_same : (l ≡ m → ⊥) → false ≡ same_list l m
  differ_same n = go (same_list l m) refl
    where
      go : (b : Bool) → same_list l m ≡ b → false ≡ b
      go true e = absurd (n (same-equal l m e))
      go false e = refl

  -- where all entries but the last are known to agree, the last decides
  pub last-same : (k : ℕ) → length l ≡ k + 1 → length m ≡ k + 1 → ((q : ℕ) → q < k → at l q ≡ at m q) → eqb (at l k) (at m k) ≡ same_list l m
  last-same k a b before =
      same_test (eqb (at l k) (at m k)) (same_list l m)
      (λ t. is_true (sym (equal-same (ext_get_or 0 l m (a ∙ sym b) (λ q h. ⊎_elim (λ s. before q s) (λ s. let z : q ≡ k = omega (arith, a) in rw z (eqb→eq (at l k) (at m k) t)) (lt-or-ge q k))))))
      (λ t. eqb_of (ap (λ (x : List ℕ). at x k) (same-equal l m (true_of (same_list l m) t))))

-- a test of two numbers is that of what they are
pub tested : {x y a b : ℕ} {t : Bool} → x ≡ a → y ≡ b → eqb a b ≡ t → eqb x y ≡ t
tested e f g = rw (e, f) g
