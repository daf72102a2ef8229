-- `match_rows::cores::link_children` meets its contract: the lists of the columns before c are whole. Assumes nothing.
use Rattle.std.specs.Prelude.{◌≤◌}
use Rattle.graph.specs.Links.{rows_in}
use Rattle.match_rows.specs.Rows.{Families}
use Rattle.match_rows.proofs.cores.link_children.Given as goal

abbrev pub invariant-loop-c : goal.invariant-loop-c
invariant-loop-c l = (l.c ≤ l.n) × Families (rows_in l.l_starts l.l_rows) l.c l.head l.sibling
