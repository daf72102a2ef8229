-- Substitutions with the transpose of a unit lower triangular block L from the left: kernel.rs. No definition here names an entry of L on or
-- above its diagonal. Assumes nothing.
use Rattle.std.specs.Prelude.{ℕ, ◌+◌, ◌-◌, ◌*◌, List, slice_index_or, slice_set}
use Rattle.std.specs.Prelude.{Float}
use Rattle.std.specs.Float.{nan}
use Rattle.scalar.specs.Loop.{steps}
use Rattle.scalar.specs.Block.{at, lose, within}

-- ---- L⁻ᵀ y

-- y(i), which t others follow, loses L(k, i) * y(k) for k = i + 1, .., i + t
abbrev pub transpose_row : ℕ → List Float → ℕ → ℕ → List Float → List Float
transpose_row n l i t y = slice_set y i (steps (λ u s. lose s (at l n (i + 1 + u) i) (slice_index_or y (i + 1 + u) nan)) t (slice_index_or y i nan))

-- rows n - 1, .., 0
unfoldable pub lower_transpose_solve : ℕ → List Float → List Float → List Float
lower_transpose_solve n l y = steps (λ t. transpose_row n l (n - 1 - t) t) n y

-- ---- the same for each column of Y, of n rows

unfoldable pub lower_transpose_matsolve : ℕ → ℕ → List Float → List Float → List Float
lower_transpose_matsolve n nrhs l y = steps (λ c. within (c * n) n (lower_transpose_solve n l)) nrhs y
