-- `marks::cores::mark_of` meets its contract. Assumes nothing.
use Rattle.marks.specs.Mark.{mark}
use Rattle.marks.proofs.cores.mark_of.Goals as goal

pub returns-then-d : goal.returns-then-d
unfolding mark
returns-then-d c = rw c.if-d.true

pub returns-else-d : goal.returns-else-d
unfolding mark
returns-else-d c = rw c.if-d.false
