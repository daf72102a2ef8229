-- A block times a vector in tiles: each number loses its own sum, which is gathered by itself, so several are gathered side by side.
-- Assumes nothing.
use Rattle.std.specs.Prelude.{ℕ, ◌+◌, List, slice_index_or, slice_set}
use Rattle.std.specs.Prelude.{Float}
use Rattle.std.specs.Float.{nan, binary64}
use Rattle.std.specs.Float.Ieee.{sub}
use Rattle.scalar.specs.Loop.{steps}

-- ---- numbers of z less their sums

-- number i
abbrev pub less : ℕ → Float → List Float → List Float
less i q z = slice_set z i (sub binary64 (slice_index_or z i nan) q)

-- n from i on, which lose what s holds, or their sums
abbrev pub less_held : (i n : ℕ) → (s : List Float) → List Float → List Float
less_held i n s = steps (λ q. less (i + q) (slice_index_or s q nan)) n

abbrev pub less_from : (sum : ℕ → Float) → (i n : ℕ) → List Float → List Float
less_from sum i n = steps (λ q. less (i + q) (sum (i + q))) n

-- the first n
abbrev pub each_less : (sum : ℕ → Float) → ℕ → List Float → List Float
each_less sum = steps (λ i. less i (sum i))
