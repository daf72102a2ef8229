-- `sweep::cores::sweep_column` meets its contract: the invariant: the rows before place u are done. Assumes nothing.
use Rattle.std.specs.Prelude.{◌≡◌, ◌+◌, ◌-◌, ◌≤◌, length}
use Rattle.tables.specs.Verdict.{at}
use Rattle.sweep.specs.Sweep.{rows_of, rows_done}
use Rattle.sweep.proofs.cores.sweep_column.Given as goal

abbrev pub invariant-loop-u : goal.invariant-loop-u
invariant-loop-u g l = record {
  begun : at l.r.l_starts.now l.j ≤ l.u;
  within : l.u ≤ at l.r.l_starts.now (l.j + 1);
  y_len : length l.y ≡ length l.initial.y;
  done : l.y ≡ rows_done g.D.Direction.pass (rows_of l.r) l.r.starts.now l.r.l_values.now l.j (l.u - at l.r.l_starts.now l.j) l.initial.y;
}

abbrev pub decreases-loop-u : goal.decreases-loop-u
decreases-loop-u g l = l.end - l.u
