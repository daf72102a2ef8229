-- `kernel_right_transpose::cores::less_before` meets its contract: the invariant: how far the sum is. Assumes nothing.
use borrow.Author.Rules.{rules}
use Rattle.scalar.proofs.Laws.{steps_next, kernels}
use Rattle.kernel_right_transpose.proofs.cores.less_before.Goals as goal

pub loop-t-preserved : goal.loop-t-preserved
loop-t-preserved c = (search rules, steps_next _ _ _ _ _ c.loop-t.invariant.1 (rw (c.entry.ensures, c.entry-in-loop-t.ensures)))

pub loop-t-init : goal.loop-t-init
loop-t-init c = search kernels
