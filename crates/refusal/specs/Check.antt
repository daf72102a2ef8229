-- The checks that calls on one block make: 2, 10 and 12 of document 01. Assumes nothing.
use Rattle.std.specs.Prelude.{ℕ, ◌*◌, cond, ◌&&◌, leb, ltb, eqb, Float}
use Rattle.scalar.specs.Scalar.{is_tolerance}
use Rattle.refusal.specs.Refusal.{Told, done, bad_dimension, bad_tolerance, short_buffer, shapes_disagree}

-- 2: a size from `least` to 16 passes
abbrev pub size_check : (least place size : ℕ) → Told
size_check least place size = cond (leb least size && leb size 16) done (bad_dimension place)

-- 10: a tolerance passes that is finite and not below zero
abbrev pub tolerance_check : Float → Told
tolerance_check tol = cond (is_tolerance tol) done bad_tolerance

-- 11: a buffer passes that has at least the need
abbrev pub need_check : (which have need : ℕ) → Told
need_check which have need = cond (ltb have need) (short_buffer which need) done

-- 12: a slice passes that has exactly the numbers of a block of that height and width
abbrev pub area_check : (place height width count : ℕ) → Told
area_check place height width count = cond (eqb count (height * width)) done (shapes_disagree place)
