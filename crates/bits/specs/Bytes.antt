-- Numbers that stand in bytes, the least first, and floats. Nothing is tested here: past the end a byte reads 0. Assumes nothing.
use Rattle.std.specs.Prelude.{ℕ, ◌+◌, ◌*◌, List, Float, from_bits, slice_index}
use Rattle.std.specs.Float.{binary64}

-- the number of a low and a high word
abbrev pub whole_of : ℕ → ℕ → ℕ
whole_of low high = low + 4294967296 * high

-- the u32 at offset o: four bytes, the least first
unfoldable pub u32_at : List ℕ → ℕ → ℕ
u32_at s o = slice_index s o + 256 * slice_index s (o + 1) + 65536 * slice_index s (o + 2) + 16777216 * slice_index s (o + 3)

-- the u64 at offset o: two u32s, the lesser first
abbrev pub u64_at : List ℕ → ℕ → ℕ
u64_at s o = whole_of (u32_at s o) (u32_at s (o + 4))

-- the float whose bits stand at offset o; the bits of every NaN are the one NaN
abbrev pub f64_at : List ℕ → ℕ → Float
f64_at s o = from_bits binary64 (u64_at s o)
