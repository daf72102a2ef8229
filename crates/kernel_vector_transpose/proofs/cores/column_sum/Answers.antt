-- `kernel_vector_transpose::cores::column_sum` meets its contract: the invariant: how far the sum is. Assumes nothing.
use borrow.Author.Rules.{rules}
use Rattle.scalar.proofs.Laws.{steps_next, kernels}
use Rattle.kernel_vector_transpose.proofs.cores.column_sum.Goals as goal

pub loop-r-preserved : goal.loop-r-preserved
loop-r-preserved c = (search rules, steps_next _ _ _ _ _ c.loop-r.invariant.1 (cc))

pub loop-r-init : goal.loop-r-init
loop-r-init c = search kernels
