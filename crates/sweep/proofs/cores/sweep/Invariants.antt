-- `sweep::cores::sweep` meets its contract: the invariant: the columns of the first t turns are done. Assumes nothing.
use Rattle.std.specs.Prelude.{◌≡◌, ◌≤◌, length}
use Rattle.sweep.specs.Sweep.{rows_of, turns_done}
use Rattle.sweep.proofs.cores.sweep.Given as goal

abbrev pub invariant-loop-t : goal.invariant-loop-t
invariant-loop-t g l = record {
  within : l.t ≤ length l.r.sizes.now;
  y_len : length l.y ≡ length l.initial.y;
  done : l.y ≡ turns_done g.D.Direction.pass (rows_of l.r) l.r.starts.now l.r.l_values.now l.t l.initial.y;
}
