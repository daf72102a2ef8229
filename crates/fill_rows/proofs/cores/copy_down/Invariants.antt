-- The loop of `fill_rows::cores::copy_down`: t entries are copied. Assumes nothing.
use Rattle.fill_rows.proofs.Copies.{Moving}
use Rattle.fill_rows.proofs.cores.copy_down.Given as goal

abbrev pub invariant-loop-t : goal.invariant-loop-t
invariant-loop-t l = Moving l.initial.table l.from l.to l.table l.t
