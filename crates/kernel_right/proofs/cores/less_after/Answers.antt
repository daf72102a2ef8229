-- `kernel_right::cores::less_after` meets its contract: the invariant: how far the sum is. Assumes nothing.
use borrow.Author.Rules.{rules}
use Rattle.scalar.proofs.Laws.{steps_next, kernels}
use Rattle.kernel_right.proofs.cores.less_after.Goals as goal

pub loop-v-preserved : goal.loop-v-preserved
loop-v-preserved c = (search rules, steps_next _ _ _ _ _ c.loop-v.invariant.1 (rw (c.entry.ensures, c.entry-in-loop-v.ensures)))

pub loop-v-init : goal.loop-v-init
loop-v-init c = search kernels
