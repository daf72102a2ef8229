-- What the tables of a factorization are made from. Assumes nothing.
use Rattle.std.specs.Prelude.{ℕ, ◌<◌, ◌≤◌, List, length}
use Rattle.graph.specs.Order.{Permutes}
use Rattle.tables.specs.Verdict.{past_diagonal}
use Rattle.tables.specs.Sound.{Measured, Columns}

-- A's tables, the order of elimination, and the columns of L
pub record Layable (dims starts rows order l_starts l_rows : List ℕ) : Type 0 where
  pub blocks : length dims ≤ 4096
  pub measured : Measured dims starts rows
  pub stored : length rows < 16777216
  pub permutes : Permutes (length dims) order
  pub columns : Columns past_diagonal (length dims) l_starts l_rows
  pub filled : length l_rows < 16777216
