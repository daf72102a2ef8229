-- Blocks of floats: lists, column by column, the entry (r, c) of a block of height h at r + c * h. Assumes nothing.
use Rattle.std.specs.Prelude.{ℕ, ◌+◌, ◌*◌, List, ◌++◌, take, drop, replicate, slice_index_or, slice_set}
use Rattle.std.specs.Prelude.{Float}
use Rattle.std.specs.Float.{nan, binary64}
use Rattle.std.specs.Float.Ieee.{add, sub, mul}
use Rattle.scalar.specs.Scalar.{nought}

-- the entry (r, c) of m
abbrev pub at : List Float → ℕ → ℕ → ℕ → Float
at m h r c = slice_index_or m (r + c * h) nan

-- m with x there
abbrev pub put : List Float → ℕ → ℕ → ℕ → Float → List Float
put m h r c x = slice_set m (r + c * h) x

-- s less, or with, the product of x and y: the product is rounded once, and then the difference or the sum
abbrev pub lose : Float → Float → Float → Float
lose s x y = sub binary64 s (mul binary64 x y)

abbrev pub gain : Float → Float → Float → Float
gain s x y = add binary64 s (mul binary64 x y)

-- x with its n numbers from `off` on changed by f
abbrev pub within : ℕ → ℕ → (List Float → List Float) → List Float → List Float
within off n f x = take off x ++ (f (take n (drop off x)) ++ drop n (drop off x))

-- zeros, n of them
abbrev pub zeros : ℕ → List Float
zeros n = replicate n nought

-- NaNs, n of them: a spoilt buffer
abbrev pub nans : ℕ → List Float
nans n = replicate n nan
