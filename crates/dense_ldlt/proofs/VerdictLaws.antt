-- What is refused, and what the answer is then. Assumes nothing.
use Rattle.std.specs.Prelude.{◌≡◌, ℕ, true, List, length, Result, Ok, Err, IsErrAnd}
use mathlib.Core.Path.{refl, sym, ap, ◌∙◌}
use lib.Ieee.{Float}
use Rattle.refusal.specs.Refusal.{Told, first_of, refuses, number, number_by}
use Rattle.refusal.specs.declared.ShapeError.{ShapeError}
use Rattle.refusal.specs.declared.ShapeError.TheVariants as shape
use Rattle.refusal.specs.Shaped as shaped
use Rattle.refusal.proofs.Laws.{after_done}
use Rattle.dense_pivots.specs.declared.LdltResult.{LdltResult}
use Rattle.dense_ldlt.specs.Ldlt.{ldlt}
use Rattle.dense_ldlt.specs.declared.LdltError.{LdltError}
use Rattle.dense_ldlt.specs.declared.LdltError.TheVariants.{Dimension, Tolerance, Mismatch, NotFinite}
use Rattle.dense_ldlt.specs.Decompose.{told, told_error, told_checks, of_shape, decompose_verdict, told_factored, decomposed}

-- ---- one check after the other, each by `?`

pub of_shape-told : (e : ShapeError) → shaped.told_error e ≡ told_error (of_shape e)
of_shape-told (shape.Dimension place) = refl
of_shape-told (shape.Mismatch place) = refl

error-refuses : (e : LdltError) → refuses (told_error e) ≡ true
error-refuses (Dimension place) = refl
error-refuses Tolerance = refl
error-refuses (Mismatch place) = refl
error-refuses (NotFinite place pivot) = refl

pub after_error : (e : LdltError) (next : Told) → first_of (told_error e) next ≡ told_error e
after_error (Dimension place) next = refl
after_error Tolerance next = refl
after_error (Mismatch place) next = refl
after_error (NotFinite place pivot) next = refl

pub ruleset in_order = (of_shape-told, after_error, after_done)

-- what `?` hands back is told as its error
pub err-told : (s : Result LdltResult LdltError) (e : LdltError) → IsErrAnd s (λ x. x ≡ e) → told s ≡ told_error e
err-told (Ok k) e h = absurd h
err-told (Err x) e h = ap told_error h

-- the number of an answer is that of what it tells
pub number-told : (r : Result LdltResult LdltError) → number_by told_error r ≡ number (told r)
number-told (Ok k) = refl
number-told (Err e) = refl

-- ---- the promise of a decomposition whose checks answered r

module _ (n : ℕ) (a d : List Float) (tol : Float) (r : Result Unit LdltError) (says : told_checks r ≡ decompose_verdict n tol (length a) (length d)) where
  pub refused : (e : LdltError) → r ≡ Err e → (told_error e, a, d) ≡ decomposed n a d tol
  unfolding decomposed
  refused e is = rw (sym says ∙ ap told_checks is, error-refuses e)

  pub passes : (w : Unit) → r ≡ Ok w → told_factored (ldlt n tol a) ≡ decomposed n a d tol
  unfolding decomposed
  passes w is = rw (sym says ∙ ap told_checks is)
