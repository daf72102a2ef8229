-- One block of the diagonal: module 6 of document 01, without the fallback. Assumes nothing.
use Rattle.std.specs.Prelude.{ℕ, ◌*◌, Bool, false, cond, List, [], ◌∷◌, length, from_bits}
use Rattle.std.specs.Prelude.{Float, Result, Ok, Err}
use Rattle.std.specs.Float.{binary64}
use Rattle.std.specs.Float.Ieee.{lt}
use Rattle.scalar.specs.Block.{nans}
use Rattle.refusal.specs.Refusal.{Told, done, told_by, verdict, refuses, bad_dimension, bad_tolerance, shapes_disagree, pivot_not_finite, poorly_conditioned}
use Rattle.refusal.specs.Check.{size_check, tolerance_check, area_check}
use Rattle.dense_pivots.specs.Pivots.{told_result}
use Rattle.dense_ldlt.specs.Ldlt.{ldlt}
use Rattle.dense_pivots.specs.declared.Definiteness.{Definiteness}
use Rattle.dense_pivots.specs.declared.Definiteness.TheVariants.{PositiveDefinite, PositiveSemiDefinite, Indefinite}
use Rattle.dense_pivots.specs.declared.LdltResult.{LdltResult}
use Rattle.dense_ldlt.specs.declared.cores.NotFinite as cores
use Rattle.block_diag_ldlt.specs.declared.cores.BlockError.{BlockError}
use Rattle.block_diag_ldlt.specs.declared.cores.BlockError.TheVariants as block
use Rattle.refusal.specs.declared.ShapeError.{ShapeError}
use Rattle.refusal.specs.declared.ShapeError.TheVariants as shape
use Rattle.block_diag_ldlt.specs.declared.DecomposeError.{DecomposeError}
use Rattle.block_diag_ldlt.specs.declared.DecomposeError.TheVariants.{Dimension, Tolerance, Mismatch, NotFinite, Poor}

-- document 01's number and values for each refusal; a call on one block names it 0
abbrev pub told_error : DecomposeError → Told
told_error (Dimension place) = bad_dimension place
told_error Tolerance = bad_tolerance
told_error (Mismatch place) = shapes_disagree place
told_error (NotFinite place pivot) = pivot_not_finite 0 place pivot
told_error (Poor condition) = poorly_conditioned 0 condition

abbrev pub told : Result LdltResult DecomposeError → Told
told = told_by told_result told_error

-- the answer of the checks alone
abbrev pub told_checks : Result Unit DecomposeError → Told
told_checks = told_by (λ w. done) told_error

-- a refusal of a check of the shapes
abbrev pub of_shape : ShapeError → DecomposeError
of_shape (shape.Dimension place) = Dimension place
of_shape (shape.Mismatch place) = Mismatch place

-- a refusal of the decomposition of a block, and of its pivots
abbrev pub of_block : BlockError → DecomposeError
of_block (block.NotFinite place pivot) = NotFinite place pivot
of_block (block.Poor condition) = Poor condition

abbrev pub of_pivot : cores.NotFinite → BlockError
of_pivot e = block.NotFinite e.place e.pivot

-- the number 1e-10
abbrev pub threshold : Float
threshold = from_bits binary64 0x3ddb_7cdf_d9d7_bdbb

-- indefinite with a condition below 1e-10, where the Rust falls back to Bunch-Kaufman
abbrev pub poor_at : Definiteness → Float → Bool
poor_at PositiveDefinite condition = false
poor_at PositiveSemiDefinite condition = false
poor_at Indefinite condition = lt condition threshold

abbrev pub is_poor : LdltResult → Bool
is_poor r = poor_at r.definiteness r.pivot_condition

-- how the decomposition of n rows settles, the factor and d: spoilt where the block is poor
abbrev pub settle : ℕ → Result LdltResult cores.NotFinite × List Float × List Float → Result LdltResult BlockError × List Float × List Float
settle n (Ok r, l, d) = cond (is_poor r) (Err (block.Poor r.pivot_condition), nans (n * n), nans n) (Ok r, l, d)
settle n (Err e, l, d) = (Err (of_pivot e), l, d)

-- the answer, the factor and d: after 13 and 14 NaNs in full
unfoldable pub block_ldlt : ℕ → Float → List Float → Result LdltResult BlockError × List Float × List Float
block_ldlt n tol a = settle n (ldlt n tol a)

-- ---- for any arguments

-- 2, 10 and 12, by the size, the tolerance and how many numbers each slice has; here a dimension 0 is 2
unfoldable pub decompose_verdict : ℕ → Float → (a l d : ℕ) → Told
decompose_verdict n tol a l d = verdict (size_check 1 0 n ∷ tolerance_check tol ∷ area_check 0 n n a ∷ area_check 1 n n l ∷ area_check 2 n 1 d ∷ [])

-- what the core answers, in document 01's number and values
abbrev pub told_settled : Result LdltResult BlockError × List Float × List Float → Told × List Float × List Float
told_settled (Ok r, l, d) = (told_result r, l, d)
told_settled (Err (block.NotFinite place pivot), l, d) = (pivot_not_finite 0 place pivot, l, d)
told_settled (Err (block.Poor condition), l, d) = (poorly_conditioned 0 condition, l, d)

-- the answer, the factor and d
unfoldable pub decomposed : ℕ → (a l d : List Float) → Float → Told × List Float × List Float
decomposed n a l d tol =
    let v = decompose_verdict n tol (length a) (length l) (length d) in
    cond (refuses v) (v, l, d) (told_settled (block_ldlt n tol a))
