-- A block times a vector: kernel.rs. Assumes nothing.
use Rattle.std.specs.Prelude.{ℕ, List, [], ◌∷◌, slice_index_or, slice_set}
use Rattle.std.specs.Prelude.{Float}
use Rattle.std.specs.Float.{nan, binary64}
use Rattle.std.specs.Float.Ieee.{sub}
use Rattle.scalar.specs.Loop.{steps}
use Rattle.scalar.specs.Block.{at, gain}
use Rattle.scalar.specs.Scalar.{nought}
use Rattle.refusal.specs.Refusal.{Told, verdict}
use Rattle.refusal.specs.Check.{size_check, area_check}

-- each sum is gathered from 0.0, then subtracted once

-- row r of A, of m rows and n columns, times b
abbrev pub row_sum : ℕ → ℕ → List Float → List Float → ℕ → Float
row_sum m n a b r = steps (λ c s. gain s (at a m r c) (slice_index_or b c nan)) n nought

-- y - A b
unfoldable pub sub_mat_plus_vec : ℕ → ℕ → List Float → List Float → List Float → List Float
sub_mat_plus_vec m n y a b = steps (λ r y. slice_set y r (sub binary64 (slice_index_or y r nan) (row_sum m n a b r))) m y

-- ---- what is refused, by the sizes and by how many numbers each slice has

-- y of m numbers, A of m rows and n columns, b of n numbers
unfoldable pub vector_verdict : ℕ → ℕ → (y a b : ℕ) → Told
vector_verdict m n y a b = verdict (size_check 0 0 m ∷ size_check 0 1 n ∷ area_check 0 m 1 y ∷ area_check 1 m n a ∷ area_check 2 n 1 b ∷ [])
