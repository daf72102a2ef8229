-- `kernel_vector::cores::row_sum` meets its contract: the invariant: how far the sum is. Assumes nothing.
use borrow.Author.Rules.{rules}
use Rattle.scalar.proofs.Laws.{steps_next, kernels}
use Rattle.kernel_vector.proofs.cores.row_sum.Goals as goal

pub loop-c-preserved : goal.loop-c-preserved
loop-c-preserved c = (search rules, steps_next _ _ _ _ _ c.loop-c.invariant.1 (cc))

pub loop-c-init : goal.loop-c-init
loop-c-init c = search kernels
