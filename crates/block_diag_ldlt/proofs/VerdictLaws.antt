-- What is refused, and what the answer is then. Assumes nothing.
use Rattle.std.specs.Prelude.{◌≡◌, ℕ, true, List, length, Result, Ok, Err, IsErrAnd}
use mathlib.Core.Path.{refl, sym, ap, ◌∙◌}
use lib.Ieee.{Float}
use Rattle.refusal.specs.Refusal.{Told, first_of, refuses, number, number_by}
use Rattle.refusal.specs.declared.ShapeError.{ShapeError}
use Rattle.refusal.specs.declared.ShapeError.TheVariants as shape
use Rattle.refusal.specs.Shaped as shaped
use Rattle.refusal.proofs.Laws.{after_done}
use Rattle.dense_pivots.specs.declared.LdltResult.{LdltResult}
use Rattle.block_diag_ldlt.specs.declared.cores.BlockError.{BlockError}
use Rattle.block_diag_ldlt.specs.declared.cores.BlockError.TheVariants as block
use Rattle.block_diag_ldlt.specs.declared.DecomposeError.{DecomposeError}
use Rattle.block_diag_ldlt.specs.declared.DecomposeError.TheVariants.{Dimension, Tolerance, Mismatch, NotFinite, Poor}
use Rattle.block_diag_ldlt.specs.Block.{told, told_error, told_checks, of_shape, of_block, decompose_verdict, block_ldlt, told_settled, decomposed}

-- ---- one check after the other, each by `?`

pub of_shape-told : (e : ShapeError) → shaped.told_error e ≡ told_error (of_shape e)
of_shape-told (shape.Dimension place) = refl
of_shape-told (shape.Mismatch place) = refl

error-refuses : (e : DecomposeError) → refuses (told_error e) ≡ true
error-refuses (Dimension place) = refl
error-refuses Tolerance = refl
error-refuses (Mismatch place) = refl
error-refuses (NotFinite place pivot) = refl
error-refuses (Poor condition) = refl

pub after_error : (e : DecomposeError) (next : Told) → first_of (told_error e) next ≡ told_error e
after_error (Dimension place) next = refl
after_error Tolerance next = refl
after_error (Mismatch place) next = refl
after_error (NotFinite place pivot) next = refl
after_error (Poor condition) next = refl

pub ruleset in_order = (of_shape-told, after_error, after_done)

-- what `?` hands back is its error
pub err-is : {A E : Type 0} (s : Result A E) (e : E) → IsErrAnd s (λ x. x ≡ e) → s ≡ Err e
err-is (Ok a) e h = absurd h
err-is (Err x) e h = ap Err h

-- a refused block, its factor and d are told as the core's answer is
pub block-told : (e : BlockError) (l d : List Float) → (told_error (of_block e), l, d) ≡ told_settled (Err e, l, d)
block-told (block.NotFinite place pivot) l d = refl
block-told (block.Poor condition) l d = refl

-- the number of an answer is that of what it tells
pub number-told : (r : Result LdltResult DecomposeError) → number_by told_error r ≡ number (told r)
number-told (Ok k) = refl
number-told (Err e) = refl

-- ---- the promise of a decomposition whose checks answered r

module _ (n : ℕ) (a l d : List Float) (tol : Float) (r : Result Unit DecomposeError)
    (says : told_checks r ≡ decompose_verdict n tol (length a) (length l) (length d)) where
  pub refused : (e : DecomposeError) → r ≡ Err e → (told_error e, l, d) ≡ decomposed n a l d tol
  unfolding decomposed
  refused e is = rw (sym says ∙ ap told_checks is, error-refuses e)

  pub passes : (w : Unit) → r ≡ Ok w → told_settled (block_ldlt n tol a) ≡ decomposed n a l d tol
  unfolding decomposed
  passes w is = rw (sym says ∙ ap told_checks is)
