-- Substitutions with a unit lower triangular block L from the left: kernel.rs. No definition here names an entry of L on or above its diagonal.
-- Assumes nothing.
use Rattle.std.specs.Prelude.{ℕ, ◌*◌, List, [], ◌∷◌, slice_index_or, slice_set}
use Rattle.std.specs.Prelude.{Float}
use Rattle.std.specs.Float.{nan}
use Rattle.scalar.specs.Loop.{steps}
use Rattle.scalar.specs.Block.{at, lose, within}
use Rattle.refusal.specs.Refusal.{Told, verdict}
use Rattle.refusal.specs.Check.{size_check, area_check}

-- ---- L⁻¹ y

-- y(i) loses L(i, k) * y(k) for k = 0, .., i - 1
abbrev pub lower_row : ℕ → List Float → ℕ → List Float → List Float
lower_row n l i y = slice_set y i (steps (λ k s. lose s (at l n i k) (slice_index_or y k nan)) i (slice_index_or y i nan))

-- rows 0, .., n - 1
unfoldable pub lower_solve : ℕ → List Float → List Float → List Float
lower_solve n l y = steps (lower_row n l) n y

-- ---- the same for each column of Y, of n rows

unfoldable pub lower_matsolve : ℕ → ℕ → List Float → List Float → List Float
lower_matsolve n nrhs l y = steps (λ c. within (c * n) n (lower_solve n l)) nrhs y

-- ---- what is refused, by the sizes and by how many numbers each slice has

-- L of n rows and columns, y of n numbers
unfoldable pub solve_verdict : ℕ → (l y : ℕ) → Told
solve_verdict n l y = verdict (size_check 0 0 n ∷ area_check 0 n n l ∷ area_check 1 n 1 y ∷ [])

-- L of n rows and columns, Y of n rows and nrhs columns
unfoldable pub matsolve_verdict : ℕ → ℕ → (l y : ℕ) → Told
matsolve_verdict n nrhs l y = verdict (size_check 0 0 n ∷ size_check 0 1 nrhs ∷ area_check 0 n n l ∷ area_check 1 n nrhs y ∷ [])
