-- `columns::cores::column_area` meets its contract: a sum, one turn a place; no term is above 256. Assumes nothing.
use Rattle.tables.specs.Verdict.{block_area}
use Rattle.tables.proofs.SearchLaws.{Summed}
use Rattle.columns.proofs.cores.column_area.Given as goal

abbrev pub invariant-loop-i : goal.invariant-loop-i
invariant-loop-i l = Summed (block_area l.dims l.rows l.d) l.lo l.hi l.i l.s
