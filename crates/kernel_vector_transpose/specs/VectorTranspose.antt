-- A transposed block times a vector: kernel.rs. Assumes nothing.
use Rattle.std.specs.Prelude.{ℕ, List, [], ◌∷◌, slice_index_or, slice_set}
use Rattle.std.specs.Prelude.{Float}
use Rattle.std.specs.Float.{nan, binary64}
use Rattle.std.specs.Float.Ieee.{sub}
use Rattle.scalar.specs.Loop.{steps}
use Rattle.scalar.specs.Block.{at, gain}
use Rattle.scalar.specs.Scalar.{nought}
use Rattle.refusal.specs.Refusal.{Told, verdict}
use Rattle.refusal.specs.Check.{size_check, area_check}

-- each sum is gathered from 0.0, then subtracted once

-- column c of A, of m rows, times z
abbrev pub column_sum : ℕ → List Float → List Float → ℕ → Float
column_sum m a z c = steps (λ r s. gain s (at a m r c) (slice_index_or z r nan)) m nought

-- x - Aᵀ z
unfoldable pub sub_mat_transpose_plus_vec : ℕ → ℕ → List Float → List Float → List Float → List Float
sub_mat_transpose_plus_vec m n x a z = steps (λ c x. slice_set x c (sub binary64 (slice_index_or x c nan) (column_sum m a z c))) n x

-- ---- what is refused, by the sizes and by how many numbers each slice has

-- x of n numbers, A of m rows and n columns, z of m numbers
unfoldable pub transpose_verdict : ℕ → ℕ → (x a z : ℕ) → Told
transpose_verdict m n x a z = verdict (size_check 0 0 m ∷ size_check 0 1 n ∷ area_check 0 n 1 x ∷ area_check 1 m n a ∷ area_check 2 m 1 z ∷ [])
