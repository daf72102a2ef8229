-- `columns::cores::first_in_columns` meets its contract: the search of each column so far has found none. Assumes nothing.
use Rattle.std.specs.Prelude.{ℕ, ◌+◌, ◌<◌, None}
use Rattle.tables.specs.Verdict.{at}
use Rattle.columns.proofs.cores.first_in_columns.Given as goal

abbrev pub invariant-loop-j : goal.invariant-loop-j
invariant-loop-j g l = (i : ℕ) → i < l.j → goal.P-post g l.first i (at l.starts i) (at l.starts (i + 1)) None
