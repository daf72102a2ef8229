-- `dense_rows::cores::divided` meets its contract: each arm returns what `cond` picks. Assumes nothing.
use Rattle.dense_rows.specs.Row.{divided_by}
use Rattle.dense_rows.proofs.cores.divided.Goals as goal

pub returns-then-at_most : goal.returns-then-at_most
unfolding divided_by
returns-then-at_most c = rw (← c.at_most.ensures, c.if-at_most.true)

pub returns-else-at_most : goal.returns-else-at_most
unfolding divided_by
returns-else-at_most c = rw (← c.at_most.ensures, c.if-at_most.false)
