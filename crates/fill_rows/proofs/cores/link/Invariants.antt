-- `fill_rows::cores::link` meets its contract. Assumes nothing.
use Rattle.fill_rows.proofs.Onward.{Linking}
use Rattle.fill_rows.proofs.cores.link.Given as goal

abbrev pub invariant-loop-k : goal.invariant-loop-k
invariant-loop-k l = Linking l.parent l.l_starts l.onward l.k
