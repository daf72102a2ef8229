-- `dense_rows::cores::kept_of` meets its contract: each arm returns what `cond` picks. Assumes nothing.
use Rattle.dense_rows.specs.Row.{stored}
use Rattle.dense_rows.proofs.cores.kept_of.Goals as goal

pub returns-then-at_most : goal.returns-then-at_most
unfolding stored
returns-then-at_most c = rw (← c.at_most.ensures, c.if-at_most.true)

pub returns-else-at_most : goal.returns-else-at_most
unfolding stored
returns-else-at_most c = rw (← c.at_most.ensures, c.if-at_most.false)
