-- The mark of a scalar by its stored d, and the marks of all scalars in old order. Assumes nothing.
use Rattle.std.specs.Prelude.{ℕ, cond, List, map, length, slice_index_or}
use Rattle.std.specs.Prelude.{Float}
use Rattle.std.specs.Float.{nan}
use Rattle.std.specs.Float.Ieee.{eq}
use Rattle.scalar.specs.Scalar.{nought}
use Rattle.tables.specs.Search.{sum}
use Rattle.scalars.specs.Scalars.{scalar_count, scalar_perm}
use Rattle.machine.specs.System.{inverse_of}
use Rattle.marks.specs.declared.cores.Mark.{Mark}
use Rattle.marks.specs.declared.cores.Mark.TheVariants.{Silent, Heard}

-- silent if the stored d equals 0.0, as -0.0 does, else heard; the tolerance does not yet tell marks apart
unfoldable pub mark : (tol d : Float) → Mark
mark tol d = cond (eq d nought) Silent Heard

-- as a byte
abbrev pub byte_of : Mark → ℕ
byte_of Silent = 0
byte_of Heard = 1

-- the byte of the new scalar, from d by new number
abbrev pub byte_at : Float → List Float → ℕ → ℕ
byte_at tol d new = byte_of (mark tol (slice_index_or d new nan))

-- the bytes of all scalars in old order: each old scalar has the byte of its new one
unfoldable pub marks_of : (dims order : List ℕ) → Float → List Float → List ℕ
marks_of dims order tol d = map {A = ℕ} {B = ℕ} (byte_at tol d) (inverse_of (scalar_count dims) (scalar_perm dims order))

-- 1 where a mark is silent
abbrev pub silent_one : Mark → ℕ
silent_one Silent = 1
silent_one Heard = 0

abbrev pub silent_at : Float → List Float → ℕ → ℕ
silent_at tol d new = silent_one (mark tol (slice_index_or d new nan))

-- how many scalars are silent
unfoldable pub silent_of : Float → List Float → ℕ
silent_of tol d = sum (silent_at tol d) 0 (length d)
