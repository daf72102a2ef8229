-- The words of a case: 64 bits each, little-endian. Assumes nothing.
use Rattle.std.specs.Prelude.{ℕ, ◌+◌, ◌*◌, ◌/◌, ◌<◌, min, Bool, true, cond, List, ◌≡◌, ltb, Float, length, get_or}
use Rattle.std.specs.Float.{nan, binary64}
use Rattle.std.specs.Float.Ieee.{of_bits}
use Rattle.bits.specs.Bytes.{u64_at}

-- the word at a place, 0 past the end
unfoldable pub word_at : List ℕ → ℕ → ℕ
word_at s at = cond (ltb at (length s / 8)) (u64_at s (at * 8)) 0

-- the place some words further on, or 8,192, which is past every case
abbrev pub onward : ℕ → ℕ → ℕ
onward at by = min (at + by) 8192

-- the float whose bits stand at a place
abbrev pub word_float : List ℕ → ℕ → Float
word_float s at = of_bits binary64 (word_at s at)

-- the float k words after a place
abbrev pub float_at : List ℕ → ℕ → ℕ → Float
float_at s at k = word_float s (onward at k)

-- the list xs is what stands from a place on
abbrev pub Stands : List ℕ → ℕ → List Float → Type 0
Stands s at xs = (k : ℕ) → k < length xs → get_or xs k nan ≡ float_at s at k

-- what a test of two floats tells
pub record Same (a b : Float) (r : Bool) : Type 0 where
  pub only : r ≡ true → a ≡ b
  pub also : a ≡ b → r ≡ true

-- what a test of a list against what stands from a place on tells
pub record Compared (s : List ℕ) (at : ℕ) (xs : List Float) (r : Bool) : Type 0 where
  pub only : r ≡ true → Stands s at xs
  pub also : Stands s at xs → r ≡ true
