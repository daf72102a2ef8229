-- What an exported call reports of its answer. Assumes nothing.
use Rattle.std.specs.Prelude.{ℕ, List, [], ◌∷◌, ◌++◌, take}
use Rattle.refusal.specs.Refusal.{Told, tells}

-- the indices that an answer carries, in three places, with zeros after them
abbrev pub carried : Told → List ℕ
carried (tells n is xs) = take 3 (is ++ 0 ∷ 0 ∷ 0 ∷ [])
