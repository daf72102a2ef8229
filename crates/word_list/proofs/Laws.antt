-- The laws of several tests together. Assumes nothing.
use mathlib.Core.Path.{◌≡◌, refl, sym}
use mathlib.Core.Bool.{Bool, true, false, ◌&&◌}
use Rattle.replay.proofs.Laws.{never}

-- ---- tests

-- the first of several tests fails, or leaves it to the others
pub fails : (a b : Bool) → a ≡ false → false ≡ (a && b)
fails true b h = never (sym h)
fails false b h = refl

pub passes : {r : Bool} (a b : Bool) → a ≡ true → r ≡ b → r ≡ (a && b)
passes true b h e = e
passes false b h e = never h
