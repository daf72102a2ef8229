-- What `ldlt_decompose_inplace` answers, for any arguments. Assumes nothing.
use Rattle.std.specs.Prelude.{ℕ, cond, List, [], ◌∷◌, length}
use Rattle.std.specs.Prelude.{Float, Result, Ok, Err}
use Rattle.refusal.specs.Refusal.{Told, done, told_by, verdict, refuses, bad_dimension, bad_tolerance, shapes_disagree, pivot_not_finite}
use Rattle.refusal.specs.Check.{size_check, tolerance_check, area_check}
use Rattle.dense_pivots.specs.Pivots.{told_result}
use Rattle.dense_pivots.specs.declared.LdltResult.{LdltResult}
use Rattle.dense_ldlt.specs.Ldlt.{ldlt}
use Rattle.refusal.specs.declared.ShapeError.{ShapeError}
use Rattle.refusal.specs.declared.ShapeError.TheVariants as shape
use Rattle.dense_ldlt.specs.declared.cores.NotFinite as cores
use Rattle.dense_ldlt.specs.declared.LdltError.{LdltError}
use Rattle.dense_ldlt.specs.declared.LdltError.TheVariants.{Dimension, Tolerance, Mismatch, NotFinite}

-- document 01's number and values for each refusal; a call on one block names it 0
abbrev pub told_error : LdltError → Told
told_error (Dimension place) = bad_dimension place
told_error Tolerance = bad_tolerance
told_error (Mismatch place) = shapes_disagree place
told_error (NotFinite place pivot) = pivot_not_finite 0 place pivot

abbrev pub told : Result LdltResult LdltError → Told
told = told_by told_result told_error

-- the answer of the checks alone
abbrev pub told_checks : Result Unit LdltError → Told
told_checks = told_by (λ w. done) told_error

-- a refusal of a check of the shapes, and of the core
abbrev pub of_shape : ShapeError → LdltError
of_shape (shape.Dimension place) = Dimension place
of_shape (shape.Mismatch place) = Mismatch place

abbrev pub of_pivot : cores.NotFinite → LdltError
of_pivot e = NotFinite e.place e.pivot

-- 2, 10 and 12, by the size, the tolerance and how many numbers each slice has
unfoldable pub decompose_verdict : ℕ → Float → (a d : ℕ) → Told
decompose_verdict n tol a d = verdict (size_check 0 0 n ∷ tolerance_check tol ∷ area_check 0 n n a ∷ area_check 1 n 1 d ∷ [])

-- what the core answers, in document 01's number and values
abbrev pub told_factored : Result LdltResult cores.NotFinite × List Float × List Float → Told × List Float × List Float
told_factored (Ok r, a, d) = (told_result r, a, d)
told_factored (Err e, a, d) = (pivot_not_finite 0 e.place e.pivot, a, d)

-- the answer, the block and d
unfoldable pub decomposed : ℕ → List Float → List Float → Float → Told × List Float × List Float
decomposed n a d tol =
    let v = decompose_verdict n tol (length a) (length d) in
    cond (refuses v) (v, a, d) (told_factored (ldlt n tol a))
