-- `reach::cores::scan` meets its contract. The invariants are the records of `Turns`, and each answer names the law for its way through the code.
-- Assumes nothing.
use Rattle.reach.proofs.Turns.{Climbing, Scanning}
use Rattle.reach.proofs.cores.scan.Given as goal

abbrev pub invariant-climb : goal.invariant-climb
invariant-climb l = Climbing l.parent l.mark l.initial.stamp l.initial.out l.initial.top l.initial.i l.stamp l.out l.top l.i

abbrev pub decreases-climb : goal.decreases-climb
decreases-climb l = l.top

abbrev pub invariant-loop-row : goal.invariant-loop-row
invariant-loop-row l = Scanning l.parent l.rows l.j l.mark l.initial.stamp l.initial.out l.stamp l.out l.top l.row-index
