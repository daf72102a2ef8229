-- The tables that stand in the first places of what is lent. Assumes nothing.
use Rattle.std.specs.Prelude.{◌≡◌, ℕ, List, ◌++◌, length, take}
use mathlib.Core.Path.{ap, ◌∙◌}
use lib.Seq.{take_at}

-- the first n of a list that begins with n entries
pub part_of : {A : Type 0} (n : ℕ) (xs ys whole : List A) → whole ≡ xs ++ ys → length xs ≡ n → take n whole ≡ xs
part_of n xs ys whole e l = ap (take n) e ∙ take_at xs ys n l
