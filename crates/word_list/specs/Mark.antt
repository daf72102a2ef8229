-- The marks of lent places, other from place to place. Assumes nothing.
use Rattle.std.specs.Prelude.{ℕ, ◌+◌, ◌%◌, Float}
use Rattle.std.specs.Float.{binary64}
use Rattle.std.specs.Float.Ieee.{of_bits}

abbrev pub word_mark : ℕ → ℕ
word_mark k = 3000000000 + k % 1000000000

-- from 3000000000.5 on, each float the next
abbrev pub float_mark : ℕ → Float
float_mark k = of_bits binary64 (4748581863622180864 + k % 1000000000)
