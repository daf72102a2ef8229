-- What a search that found a place, or none, says of `fault`. Assumes nothing.
use Rattle.std.specs.Prelude.{◌≡◌, ℕ, ◌<◌, ◌≤◌, Bool, true, false, cond, ltb, Option, Some, None}
use Rattle.std.specs.Option.{unwrap_or}
use mathlib.Core.Path.{refl, sym, ◌∙◌}
use mathlib.Core.Logic.{⊎_elim}
use native.Mathlib.Omega.{arith}
use borrow.Author.Tests.{tests, ltb-true, ltb-false}
use Rattle.tables.specs.Search.{first, fault}
use Rattle.tables.proofs.SearchLaws.{first-none, first-at, first_past, first-end, lt-or-ge}

module _ (ok : ℕ → Bool) where
  -- the test holds below k and fails there
  pub fault-here : (lo k hi : ℕ) → lo ≤ k → k < hi → ((i : ℕ) → lo ≤ i → i < k → ok i ≡ true) → ok k ≡ false → Some k ≡ fault ok lo hi
  unfolding fault
  fault-here lo k hi l h each e = rw (first-at ok lo k hi l h each e) (search (arith, tests))

  -- it holds at each place
  pub fault-none : (lo hi : ℕ) → ((i : ℕ) → lo ≤ i → i < hi → ok i ≡ true) → None ≡ fault ok lo hi
  unfolding fault
  fault-none lo hi each = ⊎_elim (λ h. some (omega arith)) (λ h. none h) (lt-or-ge lo hi)
    where
      none : hi ≤ lo → None ≡ fault ok lo hi
      none h = rw (first-end ok lo hi h) (search (arith, tests))

      some : lo ≤ hi → None ≡ fault ok lo hi
      some h = rw (first_past ok lo hi hi h (omega arith) each, first-end ok hi hi (omega arith)) (search (arith, tests))

  -- the place found is where the search ends, and before the end
  pub fault-some : (lo hi k : ℕ) → Some k ≡ fault ok lo hi → (k ≡ first ok lo hi) × (k < hi)
  unfolding fault
  fault-some lo hi k e = by-test (ltb (first ok lo hi) hi) refl e
    where
      by-test : (b : Bool) → ltb (first ok lo hi) hi ≡ b → Some k ≡ cond b (Some (first ok lo hi)) None → (k ≡ first ok lo hi) × (k < hi)
      by-test true t s = let same : k ≡ first ok lo hi = cc in (same, rw same (ltb-true _ _ t))
      by-test false t s = absurd (cc)

  -- none found: the search came to its end
  pub fault-past : (lo hi : ℕ) → None ≡ fault ok lo hi → hi ≤ first ok lo hi
  unfolding fault
  fault-past lo hi e = by-test (ltb (first ok lo hi) hi) refl e
    where
      by-test : (b : Bool) → ltb (first ok lo hi) hi ≡ b → None ≡ cond b (Some (first ok lo hi)) None → hi ≤ first ok lo hi
      by-test true t s = absurd (cc)
      by-test false t s = ltb-false _ _ t

  -- so the test holds at each place
  pub fault-clear : (lo hi : ℕ) → None ≡ fault ok lo hi → (k : ℕ) → lo ≤ k → k < hi → ok k ≡ true
  fault-clear lo hi e k p q = first-none ok lo hi (fault-past lo hi e) k p q

  -- the place found, or the end: where the search ends
  pub fault-end : (lo hi : ℕ) → lo ≤ hi → (o : Option ℕ) → o ≡ fault ok lo hi → unwrap_or o hi ≡ first ok lo hi
  fault-end lo hi l (Some k) e = (fault-some lo hi k e).0
  fault-end lo hi l None e = sym (first_past ok lo hi hi l (omega arith) (fault-clear lo hi e) ∙ first-end ok hi hi (omega arith))
