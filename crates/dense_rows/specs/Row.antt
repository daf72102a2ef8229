-- One row of the LDLᵀ decomposition of a block A of n rows and columns: module 2 of document 01. Only the lower triangle of A is read. Assumes nothing.
use Rattle.std.specs.Prelude.{ℕ, ◌+◌, ◌-◌, cond, List, slice_index_or}
use Rattle.std.specs.Prelude.{Float}
use Rattle.std.specs.Float.{nan, binary64}
use Rattle.std.specs.Float.Ieee.{mul, div, le}
use Rattle.scalar.specs.Loop.{steps}
use Rattle.scalar.specs.Block.{at, put, lose}
use Rattle.scalar.specs.Scalar.{nought, magnitude}

-- ---- row j of L, where `tolerance` is the row's

-- s less (L(j, p) * d(p)) * L(k, p)
abbrev pub lose_scaled : ℕ → ℕ → ℕ → List Float → List Float → ℕ → Float → Float
lose_scaled n j k a d p s = lose s (mul binary64 (at a n j p) (slice_index_or d p nan)) (at a n k p)

-- a(j, k) less these for p = 0, .., k - 1
abbrev pub reduced_entry : ℕ → ℕ → ℕ → List Float → List Float → Float
reduced_entry n j k a d = steps (lose_scaled n j k a d) k (at a n j k)

-- s / d, and 0.0 where |d| is at most the tolerance, though d may not be 0.0
unfoldable pub divided_by : Float → Float → Float → Float
divided_by tolerance d s = cond (le (magnitude d) tolerance) nought (div binary64 s d)

-- a(j, k) becomes L(j, k)
abbrev pub divide_entry : ℕ → ℕ → Float → List Float → ℕ → List Float → List Float
divide_entry n j tolerance d k a = put a n j k (divided_by tolerance (slice_index_or d k nan) (reduced_entry n j k a d))

-- k = 0, .., j - 1
abbrev pub divided_row : ℕ → ℕ → Float → List Float → List Float → List Float
divided_row n j tolerance d a = steps (divide_entry n j tolerance d) j a

-- ---- the pivot of row j

-- s less (d(p) * L(j, p)) * L(j, p)
abbrev pub lose_pivot : ℕ → ℕ → List Float → List Float → ℕ → Float → Float
lose_pivot n j a d p s = lose s (mul binary64 (slice_index_or d p nan) (at a n j p)) (at a n j p)

-- a(j, j) less these for p = 0, .., j - 1
abbrev pub pivot_of : ℕ → ℕ → List Float → List Float → Float
pivot_of n j a d = steps (lose_pivot n j a d) j (at a n j j)

-- as it is stored: 0.0 where |x| is at most the tolerance
unfoldable pub stored : Float → Float → Float
stored tolerance x = cond (le (magnitude x) tolerance) nought x

-- ---- above the diagonal

-- all above the diagonal becomes 0.0
abbrev pub clear_row : ℕ → ℕ → List Float → List Float
clear_row n r a = steps (λ u a. put a n r (r + 1 + u) nought) (n - 1 - r) a

unfoldable pub clear_upper : ℕ → List Float → List Float
clear_upper n a = steps (clear_row n) n a
