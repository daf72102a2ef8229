-- One row of the decomposition: what the code does with all of d is what the definition says of the d of the rows done. Assumes nothing.
use Rattle.std.specs.Prelude.{◌≡◌, ℕ, ◌<◌, ◌≤◌, true, false, List, [], ◌∷◌, ◌++◌, get_or, take}
use mathlib.Core.Path.{sym, ap, ap₂, ◌∙◌}
use native.Mathlib.Omega.{arith}
use lib.Seq.{get_or-take}
use lib.Ieee.{Float, nan, binary64, mul}
use Rattle.scalar.specs.Block.{at, put, lose}
use Rattle.scalar.specs.Scalar.{one, is_finite}
use Rattle.scalar.proofs.Laws.{steps-same}
use Rattle.dense_rows.specs.Row.{reduced_entry, divided_by, divided_row, pivot_of, stored}
use Rattle.dense_pivots.specs.Pivots.{row_tolerance}
use Rattle.dense_ldlt.specs.Ldlt.{ldlt_row, going, stopped}

-- ---- row j reads the first j of d alone
module _ (j : ℕ) (d e : List Float) (same : (p : ℕ) → p < j → get_or d p nan ≡ get_or e p nan) where
  reduced-same : (n k : ℕ) (a : List Float) → k ≤ j → reduced_entry n j k a d ≡ reduced_entry n j k a e
  reduced-same n k a h =
      steps-same _ _ k (λ p s l. ap (λ (x : Float). lose s (mul binary64 (at a n j p) x) (at a n k p)) (same p (omega arith))) (at a n j k)

  row_same : (n : ℕ) (tolerance : Float) (a : List Float) → divided_row n j tolerance d a ≡ divided_row n j tolerance e a
  row_same n tolerance a =
      steps-same _ _ j
      (λ k b h. ap₂ (λ (x s : Float). put b n j k (divided_by tolerance x s)) (same k h) (reduced-same n k b (omega arith))) a

  pivot-same : (n : ℕ) (a : List Float) → pivot_of n j a d ≡ pivot_of n j a e
  pivot-same n a = steps-same _ _ j (λ p s h. ap (λ (x : Float). lose s (mul binary64 x (at a n j p)) (at a n j p)) (same p h)) (at a n j j)

-- ---- z is the row's tolerance, a' the block after its divisions and x its pivot
module _ (n j : ℕ) (tol : Float) (a d : List Float) (z : Float) (a' : List Float) (x : Float)
    (tolerance : z ≡ row_tolerance tol (take j d) j) (divides : a' ≡ divided_row n j z d a) (pivots : x ≡ pivot_of n j a' d) where
  done : (p : ℕ) → p < j → get_or d p nan ≡ get_or (take j d) p nan
  done p h = sym (get_or-take j d p nan h)

  row-of-done : a' ≡ divided_row n j z (take j d) a
  row-of-done = divides ∙ row_same j d (take j d) done n z a

  pivot-of-done : x ≡ pivot_of n j a' (take j d)
  pivot-of-done = pivots ∙ pivot-same j d (take j d) done n a'

  pub goes_on : is_finite x ≡ true → going (put a' n j j one) (take j d ++ (stored z x ∷ [])) ≡ ldlt_row n tol j (going a (take j d))
  unfolding ldlt_row
  goes_on f = rw (← tolerance, ← row-of-done, ← pivot-of-done, f)

  pub stops : is_finite x ≡ false → stopped j x ≡ ldlt_row n tol j (going a (take j d))
  unfolding ldlt_row
  stops f = rw (← tolerance, ← row-of-done, ← pivot-of-done, f)
