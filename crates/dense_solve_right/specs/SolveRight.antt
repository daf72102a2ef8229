-- The solve with a decomposed block from the right, L of n rows and columns: the kernels' definitions in the order of dense_ldlt.rs. A below stands for
-- L D Lᵀ. Assumes nothing.
use Rattle.std.specs.Prelude.{ℕ, List, [], ◌∷◌}
use Rattle.std.specs.Prelude.{Float}
use Rattle.refusal.specs.Refusal.{Told, verdict}
use Rattle.refusal.specs.Check.{size_check, area_check}
use Rattle.kernel_right.specs.Right.{lower_right_solve}
use Rattle.kernel_right_transpose.specs.RightTranspose.{lower_transpose_rightsolve}
use Rattle.kernel_diag_right.specs.DiagRight.{diag_right_matsolve}

-- X A⁻¹, X of m rows and n columns
unfoldable pub ldlt_right_matsolve : ℕ → ℕ → (l d x : List Float) → List Float
ldlt_right_matsolve m n l d x = lower_right_solve m n l (diag_right_matsolve m n d (lower_transpose_rightsolve m n l x))

-- ---- what is refused, by the sizes, from `least` on, and by how many numbers each slice has

unfoldable pub right_verdict : (least : ℕ) → ℕ → ℕ → (l d x : ℕ) → Told
right_verdict least m n l d x = verdict (size_check least 0 m ∷ size_check least 1 n ∷ area_check 0 n n l ∷ area_check 1 n 1 d ∷ area_check 2 m n x ∷ [])
