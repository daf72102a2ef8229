-- `dense_pivots::cores::Pivots::counted` meets its contract: each return rewrites the definition with the test that led there; `cc` joins the fields of the record. Assumes nothing.
use Rattle.dense_pivots.specs.Pivots.{counted}
use Rattle.dense_pivots.proofs.cores.Pivots.counted.Goals as goal

pub returns-then-x : goal.returns-then-x
unfolding counted
returns-then-x c = rw c.if-x.true

pub returns-then-x-2 : goal.returns-then-x-2
unfolding counted
returns-then-x-2 c = rw (c.if-x.false, c.if-x-2.true)
    (cc)

pub returns-else-x-2 : goal.returns-else-x-2
unfolding counted
returns-else-x-2 c = rw (c.if-x.false, c.if-x-2.false)
    (cc)
