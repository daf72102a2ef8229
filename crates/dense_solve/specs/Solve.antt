-- Solves with a decomposed block from the left, L of n rows and columns: each is the kernels' definitions in the order of dense_ldlt.rs. A below stands for L D Lᵀ.
-- Assumes nothing.
use Rattle.std.specs.Prelude.{ℕ, List, [], ◌∷◌}
use Rattle.std.specs.Prelude.{Float}
use Rattle.refusal.specs.Refusal.{Told, verdict}
use Rattle.refusal.specs.Check.{size_check, area_check}
use Rattle.kernel_lower.specs.Lower.{lower_solve, lower_matsolve}
use Rattle.kernel_lower_transpose.specs.Transpose.{lower_transpose_solve, lower_transpose_matsolve}
use Rattle.kernel_diag.specs.Diag.{diag_solve, diag_matsolve}

-- A⁻¹ x, x of n numbers: forward, the diagonal, backward
unfoldable pub ldlt_solve : ℕ → (l d x : List Float) → List Float
ldlt_solve n l d x = lower_transpose_solve n l (diag_solve n d (lower_solve n l x))

-- A⁻¹ X, X of n rows and nrhs columns
unfoldable pub ldlt_matsolve : ℕ → ℕ → (l d x : List Float) → List Float
ldlt_matsolve n nrhs l d x = lower_transpose_matsolve n nrhs l (diag_matsolve n nrhs d (lower_matsolve n nrhs l x))

-- ---- what is refused, by the sizes, from `least` on, and by how many numbers each slice has

unfoldable pub solve_verdict : (least : ℕ) → ℕ → (l d x : ℕ) → Told
solve_verdict least n l d x = verdict (size_check least 0 n ∷ area_check 0 n n l ∷ area_check 1 n 1 d ∷ area_check 2 n 1 x ∷ [])

unfoldable pub matsolve_verdict : ℕ → ℕ → (l d x : ℕ) → Told
matsolve_verdict n nrhs l d x = verdict (size_check 0 0 n ∷ size_check 0 1 nrhs ∷ area_check 0 n n l ∷ area_check 1 n 1 d ∷ area_check 2 n nrhs x ∷ [])
