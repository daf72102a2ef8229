-- One block of the permuted matrix as it is loaded, from A's tables alone. Assumes nothing.
use Rattle.std.specs.Prelude.{◌≡◌, ℕ, ◌+◌, ◌*◌, ◌<◌, ◌≤◌, min, max, Bool, cond, List, map, length, nat_lt}
use Rattle.std.specs.Prelude.{Float}
use Rattle.std.specs.Float.{binary64}
use Rattle.std.specs.Float.Ieee.{add}
use Rattle.scalar.specs.Scalar.{nought}
use Rattle.scalar.specs.Block.{zeros}
use Rattle.tables.specs.Verdict.{at, areas, from_diagonal}
use Rattle.tables.specs.Sound.{Columns}
use Rattle.scalars.specs.Bodies.{offsets, place_of, body_at, landed}

-- ---- what is needed

-- the rows of one column lie in the row table and ascend
pub record ColumnRises (starts rows : List ℕ) (column : ℕ) : Type 0 where
  pub known : column + 1 < length starts
  pub inside : (at starts column ≤ at starts (column + 1)) × (at starts (column + 1) ≤ length rows)
  pub rises : (p q : ℕ) → at starts column ≤ p → p < q → q < at starts (column + 1) → at rows p < at rows q

-- A's tables and values, good, and where each body begins
pub record Kept (dims starts rows : List ℕ) (values : List Float) (bodies : List ℕ) : Type 0 where
  pub columns : Columns from_diagonal (length dims) starts rows
  pub counted : length values ≡ areas dims starts rows
  pub by_bodies : bodies ≡ offsets dims starts rows

-- ---- what is loaded

module _ (dims starts rows : List ℕ) (values : List Float) where
  -- A's block (row, column) as 0.0 + value, transposed where it lands above the diagonal; zeros where A stores none
  unfoldable pub stored_block : (above : Bool) → (row column : ℕ) → List Float
  stored_block above row column =
      cond (nat_lt (place_of starts rows row column) (at starts (column + 1)))
      (map {A = Float} {B = Float} (add binary64 nought) (landed above (at dims row) (at dims column) (body_at dims starts rows values (place_of starts rows row column))))
      (zeros (at dims row * at dims column))

  -- block (i, j) by new numbers: A has the greater of the two old ones as row
  unfoldable pub block_at : (order : List ℕ) → (i j : ℕ) → List Float
  block_at order i j = stored_block (nat_lt (at order i) (at order j)) (max (at order i) (at order j)) (min (at order i) (at order j))
