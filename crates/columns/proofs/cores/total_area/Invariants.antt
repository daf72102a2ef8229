-- `columns::cores::total_area` meets its contract: the sum goes one column after the other, and is at most 2³². Assumes nothing.
use Rattle.std.specs.Prelude.{◌≤◌, length}
use Rattle.tables.specs.Verdict.{at, area_at}
use Rattle.tables.proofs.SearchLaws.{Summed}
use Rattle.columns.proofs.cores.total_area.Given as goal

abbrev pub invariant-loop-j : goal.invariant-loop-j
invariant-loop-j l = (l.j ≤ length l.dims) × Summed (area_at l.dims l.starts l.rows) 0 (length l.rows) (at l.starts l.j) l.s
