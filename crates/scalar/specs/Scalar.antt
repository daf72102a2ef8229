-- Single floats: Rust's `abs`, `max`, `min` and `is_finite` of an f64. Assumes nothing.
use Rattle.std.specs.Prelude.{Bool, true, false, cond, not, ◌&&◌, from_bits, is_nan}
use Rattle.std.specs.Prelude.{Float}
use Rattle.std.specs.Float.{nan, inf, fin, binary64}
use Rattle.std.specs.Float.Ieee.{lt}

-- the numbers 0.0 and 1.0, and the greatest finite number
abbrev pub nought : Float
nought = from_bits binary64 0

abbrev pub one : Float
one = from_bits binary64 0x3ff0_0000_0000_0000

abbrev pub greatest_finite : Float
greatest_finite = from_bits binary64 0x7fef_ffff_ffff_ffff

-- |x|: the sign goes, also that of -0.0
unfoldable pub magnitude : Float → Float
magnitude nan = nan
magnitude (inf s) = inf false
magnitude (fin s m e) = fin false m e

unfoldable pub is_finite : Float → Bool
is_finite nan = false
is_finite (inf s) = false
is_finite (fin s m e) = true

-- the greater and the lesser of two: of a NaN and a number, the number
unfoldable pub max : Float → Float → Float
max a b = cond (is_nan a) b (cond (lt a b) b a)

unfoldable pub min : Float → Float → Float
min a b = cond (is_nan a) b (cond (lt b a) b a)

-- a relative tolerance: finite and not below zero; -0.0 is one
abbrev pub is_tolerance : Float → Bool
is_tolerance x = is_finite x && not (lt x nought)
