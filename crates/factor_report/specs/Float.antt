-- The float that an exported factorization reports of its answer. Assumes nothing.
use Rattle.std.specs.Prelude.{List, ◌++◌, Float, take}
use Rattle.scalar.specs.Block.{zeros}
use Rattle.refusal.specs.Refusal.{Told, tells}

-- the float that an answer carries, or 0.0
abbrev pub carried_float : Told → List Float
carried_float (tells n is xs) = take 1 (xs ++ zeros 1)
