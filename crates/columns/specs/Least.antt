-- The least row of a column. Assumes nothing.
use Rattle.std.specs.Prelude.{ℕ}
use Rattle.tables.specs.Verdict.{from_diagonal, past_diagonal, any_row}
use Rattle.columns.specs.declared.cores.Least.{Least}
use Rattle.columns.specs.declared.cores.Least.TheVariants as least

-- by the code's name for it
abbrev pub least_row : Least → ℕ → ℕ
least_row least.Diagonal = from_diagonal
least_row least.PastDiagonal = past_diagonal
least_row least.Any = any_row
