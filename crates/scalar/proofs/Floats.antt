-- std's tests of a float are those of the definitions. Assumes nothing.
use Rattle.std.specs.Prelude.{◌≡◌, false, Float}
use Rattle.std.specs.Float.{nan, inf, fin, float_with_sign, float_is_finite}
use mathlib.Core.Path.{refl}
use Rattle.scalar.specs.Scalar.{magnitude, is_finite}

pub positive : (x : Float) → float_with_sign false x ≡ magnitude x
unfolding magnitude float_with_sign
positive nan = refl
positive (inf s) = refl
positive (fin s m e) = refl

pub finite : (x : Float) → float_is_finite x ≡ is_finite x
unfolding is_finite float_is_finite
finite nan = refl
finite (inf s) = refl
finite (fin s m e) = refl
