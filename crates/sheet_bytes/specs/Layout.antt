-- The bytes of a sheet, from document 01, "The sheet and the program `fit`": little-endian numbers and floats, and where each
-- part lies. How many bytes an entry of the contents has is a parameter. Nothing is tested here: past the end a byte reads 0.
-- Assumes nothing.
use Rattle.std.specs.Prelude.{ℕ, ◌+◌, ◌*◌, List, map}
use Rattle.std.specs.Prelude.{Float}
use Rattle.graph.specs.Sets.{from}
-- ---- numbers and tables

unfoldable pub use Rattle.bits.specs.Bytes.{u32_at}
pub use Rattle.bits.specs.Bytes.{u64_at, f64_at}

-- a table of u32s, the first at `start`, each `stride` bytes after the one before
unfoldable pub u32s : List ℕ → (start stride count : ℕ) → List ℕ
u32s s start stride count = map {A = ℕ} {B = ℕ} (λ k. u32_at s (start + stride * k)) (from 0 count)

-- floats back to back, the first at `start`
unfoldable pub f64s : List ℕ → (start count : ℕ) → List Float
f64s s start count = map {A = ℕ} {B = Float} (λ k. f64_at s (start + 8 * k)) (from 0 count)

-- ---- the parts of a sheet

module _ (s : List ℕ) where
  -- u32 blocks n, u32 stored m, f64 tolerance
  abbrev pub blocks_of : ℕ
  blocks_of = u32_at s 0

  abbrev pub stored_of : ℕ
  stored_of = u32_at s 4

  abbrev pub tol_of : Float
  tol_of = f64_at s 8

  -- n pairs of u32: dimension, late flag
  abbrev pub dims_of : List ℕ
  dims_of = u32s s 16 8 blocks_of

  abbrev pub late_of : List ℕ
  late_of = u32s s 20 8 blocks_of

  -- n u32 permutation
  abbrev pub perm_of : List ℕ
  perm_of = u32s s (16 + 8 * blocks_of) 4 blocks_of

  -- the contents begin behind it
  abbrev pub contents_at : ℕ
  contents_at = 16 + 12 * blocks_of

-- the contents, m entries of `width` bytes each, which begin with u32 row, column, offset
module _ (width : ℕ) (s : List ℕ) where
  abbrev pub entry_rows : List ℕ
  entry_rows = u32s s (contents_at s) width (stored_of s)

  abbrev pub entry_columns : List ℕ
  entry_columns = u32s s (contents_at s + 4) width (stored_of s)

  abbrev pub entry_offsets : List ℕ
  entry_offsets = u32s s (contents_at s + 8) width (stored_of s)

  -- the bodies begin behind them
  abbrev pub bodies_at : ℕ
  bodies_at = contents_at s + width * stored_of s
