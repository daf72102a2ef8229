-- Solves with a diagonal D from the left, whose numbers are d: kernel.rs. A d equal to 0.0, as -0.0 is, gives 0.0 in the vector form and a factor of 0.0 in the other.
-- Assumes nothing.
use Rattle.std.specs.Prelude.{ℕ, cond, List, [], ◌∷◌, slice_index_or, slice_set}
use Rattle.std.specs.Prelude.{Float}
use Rattle.std.specs.Float.{nan, binary64}
use Rattle.std.specs.Float.Ieee.{mul, div, eq}
use Rattle.scalar.specs.Loop.{steps}
use Rattle.scalar.specs.Block.{at, put}
use Rattle.scalar.specs.Scalar.{nought, one}
use Rattle.refusal.specs.Refusal.{Told, verdict}
use Rattle.refusal.specs.Check.{size_check, area_check}

-- y / d
abbrev pub quotient : Float → Float → Float
quotient y d = cond (eq d nought) nought (div binary64 y d)

-- 1 / d
abbrev pub inverse : Float → Float
inverse d = cond (eq d nought) nought (div binary64 one d)

-- D⁻¹ y: each number is divided
unfoldable pub diag_solve : ℕ → List Float → List Float → List Float
diag_solve n d y = steps (λ i y. slice_set y i (quotient (slice_index_or y i nan) (slice_index_or d i nan))) n y

-- D⁻¹ Y, Y of n rows and nrhs columns: row i is multiplied by 1 / d(i)
abbrev pub scale_row : ℕ → ℕ → Float → ℕ → List Float → List Float
scale_row n i by c y = put y n i c (mul binary64 (at y n i c) by)

unfoldable pub diag_matsolve : ℕ → ℕ → List Float → List Float → List Float
diag_matsolve n nrhs d y = steps (λ i. steps (scale_row n i (inverse (slice_index_or d i nan))) nrhs) n y

-- ---- what is refused, by the sizes and by how many numbers each slice has

-- d and y of n numbers
unfoldable pub diag_verdict : ℕ → (d y : ℕ) → Told
diag_verdict n d y = verdict (size_check 0 0 n ∷ area_check 0 n 1 d ∷ area_check 1 n 1 y ∷ [])

-- d of n numbers, Y of n rows and nrhs columns
unfoldable pub diag_mat_verdict : ℕ → ℕ → (d y : ℕ) → Told
diag_mat_verdict n nrhs d y = verdict (size_check 0 0 n ∷ size_check 0 1 nrhs ∷ area_check 0 n 1 d ∷ area_check 1 n nrhs y ∷ [])
