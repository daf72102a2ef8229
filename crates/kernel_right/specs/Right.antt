-- The substitution with a unit lower triangular block L of n rows and columns from the right, X of m rows and n columns: kernel.rs.
-- No definition here names an entry of L on or above its diagonal. Assumes nothing.
use Rattle.std.specs.Prelude.{ℕ, ◌+◌, ◌-◌, List, [], ◌∷◌}
use Rattle.std.specs.Prelude.{Float}
use Rattle.scalar.specs.Loop.{steps}
use Rattle.scalar.specs.Block.{at, put, lose}
use Rattle.refusal.specs.Refusal.{Told, verdict}
use Rattle.refusal.specs.Check.{size_check, area_check}

-- ---- X L⁻¹, row by row

-- x(r, j), which u others follow, loses x(r, t) * L(t, j) for t = j + 1, .., j + u
abbrev pub right_less : ℕ → ℕ → List Float → List Float → ℕ → ℕ → ℕ → Float
right_less m n l x r j u = steps (λ v s. lose s (at x m r (j + 1 + v)) (at l n (j + 1 + v) j)) u (at x m r j)

abbrev pub right_entry : ℕ → ℕ → List Float → ℕ → ℕ → List Float → List Float
right_entry m n l r u x = put x m r (n - 1 - u) (right_less m n l x r (n - 1 - u) u)

-- in each row the columns n - 1, .., 0
unfoldable pub lower_right_solve : ℕ → ℕ → List Float → List Float → List Float
lower_right_solve m n l x = steps (λ r. steps (right_entry m n l r) n) m x

-- ---- what is refused, by the sizes and by how many numbers each slice has

unfoldable pub right_verdict : ℕ → ℕ → (l x : ℕ) → Told
right_verdict m n l x = verdict (size_check 0 0 m ∷ size_check 0 1 n ∷ area_check 0 n n l ∷ area_check 1 m n x ∷ [])
