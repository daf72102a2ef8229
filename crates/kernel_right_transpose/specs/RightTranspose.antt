-- The substitution with the transpose of a unit lower triangular block L of n rows and columns from the right, X of m rows and n columns: kernel.rs.
-- No definition here names an entry of L on or above its diagonal. Assumes nothing.
use Rattle.std.specs.Prelude.{ℕ, List}
use Rattle.std.specs.Prelude.{Float}
use Rattle.scalar.specs.Loop.{steps}
use Rattle.scalar.specs.Block.{at, put, lose}

-- ---- X L⁻ᵀ, row by row

-- x(r, j) loses x(r, t) * L(j, t) for t = 0, .., j - 1
abbrev pub transpose_less : ℕ → ℕ → List Float → List Float → ℕ → ℕ → Float
transpose_less m n l x r j = steps (λ t s. lose s (at x m r t) (at l n j t)) j (at x m r j)

abbrev pub transpose_entry : ℕ → ℕ → List Float → ℕ → ℕ → List Float → List Float
transpose_entry m n l r j x = put x m r j (transpose_less m n l x r j)

-- in each row the columns 0, .., n - 1
unfoldable pub lower_transpose_rightsolve : ℕ → ℕ → List Float → List Float → List Float
lower_transpose_rightsolve m n l x = steps (λ r. steps (transpose_entry m n l r) n) m x
