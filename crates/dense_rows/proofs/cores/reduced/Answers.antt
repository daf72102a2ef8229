-- `dense_rows::cores::reduced` meets its contract: a turn's result is the definition's by what `entry` ensures, which `cc` finds. Assumes nothing.
use borrow.Author.Rules.{rules}
use Rattle.scalar.proofs.Laws.{steps_next, kernels}
use Rattle.dense_rows.proofs.cores.reduced.Goals as goal

pub loop-p-preserved : goal.loop-p-preserved
loop-p-preserved c = (search rules, steps_next _ _ _ _ _ c.loop-p.invariant.1 (cc))

pub loop-p-init : goal.loop-p-init
loop-p-init c = search kernels
