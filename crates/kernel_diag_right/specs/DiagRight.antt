-- The solve with a diagonal D, whose numbers are d, from the right: kernel.rs. A d equal to 0.0, as -0.0 is, gives a factor of 0.0. Assumes nothing.
use Rattle.std.specs.Prelude.{ℕ, List, [], ◌∷◌, slice_index_or}
use Rattle.std.specs.Prelude.{Float}
use Rattle.std.specs.Float.{nan, binary64}
use Rattle.std.specs.Float.Ieee.{mul}
use Rattle.scalar.specs.Loop.{steps}
use Rattle.scalar.specs.Block.{at, put}
use Rattle.refusal.specs.Refusal.{Told, verdict}
use Rattle.refusal.specs.Check.{size_check, area_check}
use Rattle.kernel_diag.specs.Diag.{inverse}

-- Y D⁻¹, Y of m rows and n columns: column j is multiplied by 1 / d(j)
abbrev pub scale_column : ℕ → ℕ → Float → ℕ → List Float → List Float
scale_column m j by r y = put y m r j (mul binary64 (at y m r j) by)

-- each column by its factor
abbrev pub columns_scaled : ℕ → ℕ → (ℕ → Float) → List Float → List Float
columns_scaled m n f = steps (λ j. steps (scale_column m j (f j)) m) n

unfoldable pub diag_right_matsolve : ℕ → ℕ → List Float → List Float → List Float
diag_right_matsolve m n d y = columns_scaled m n (λ j. inverse (slice_index_or d j nan)) y

-- ---- what is refused, by the sizes and by how many numbers each slice has

-- d of n numbers, Y of m rows and n columns
unfoldable pub diag_right_verdict : ℕ → ℕ → (d y : ℕ) → Told
diag_right_verdict m n d y = verdict (size_check 0 0 m ∷ size_check 0 1 n ∷ area_check 0 n 1 d ∷ area_check 1 m n y ∷ [])
