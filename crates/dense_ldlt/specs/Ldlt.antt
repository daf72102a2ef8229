-- The LDLᵀ decomposition of one block A of n rows and columns: module 2 of document 01. Only the lower triangle of A is named. Assumes nothing.
use Rattle.std.specs.Prelude.{ℕ, ◌*◌, cond, List, [], ◌∷◌, ◌++◌}
use Rattle.std.specs.Prelude.{Float, Result, Ok, Err}
use Rattle.scalar.specs.Loop.{steps}
use Rattle.scalar.specs.Block.{put, nans}
use Rattle.scalar.specs.Scalar.{one, is_finite}
use Rattle.dense_rows.specs.Row.{divided_row, pivot_of, stored, clear_upper}
use Rattle.dense_pivots.specs.Pivots.{row_tolerance, result_of}
use Rattle.dense_pivots.specs.declared.LdltResult.{LdltResult}
use Rattle.dense_ldlt.specs.declared.cores.NotFinite.{NotFinite}

-- between two rows: the block, and the d of the rows done; or the row whose pivot is NaN or infinite, and that pivot
pub data Run : Type 0 where
  going : List Float → List Float → Run
  stopped : ℕ → Float → Run

-- row j with its pivot x: finiteness is tested first
abbrev pub settled : ℕ → ℕ → Float → List Float → List Float → Float → Run
settled n j tolerance a d x = cond (is_finite x) (going (put a n j j one) (d ++ (stored tolerance x ∷ []))) (stopped j x)

abbrev pub row_done : ℕ → ℕ → Float → List Float → List Float → Run
row_done n j tolerance a d = settled n j tolerance a d (pivot_of n j a d)

unfoldable pub ldlt_row : ℕ → Float → ℕ → Run → Run
ldlt_row n tol j (going a d) = row_done n j (row_tolerance tol d j) (divided_row n j (row_tolerance tol d j) d a) d
ldlt_row n tol j (stopped i x) = stopped i x

abbrev pub finish : ℕ → Float → Run → Result LdltResult NotFinite × List Float × List Float
finish n tol (going a d) = (Ok (result_of tol d n), clear_upper n a, d)
finish n tol (stopped j x) = (Err (record { place = j; pivot = x }), nans (n * n), nans n)

-- the answer, the block and d: after a pivot that is not finite, NaNs in full
unfoldable pub ldlt : ℕ → Float → List Float → Result LdltResult NotFinite × List Float × List Float
ldlt n tol a = finish n tol (steps (ldlt_row n tol) n (going a []))
