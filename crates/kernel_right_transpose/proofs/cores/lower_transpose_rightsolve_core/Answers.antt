-- `kernel_right_transpose::cores::lower_transpose_rightsolve_core` meets its contract: two loops, two invariants: how far each loop of the definition is. Assumes nothing.
use borrow.Author.Rules.{rules}
use Rattle.scalar.proofs.Laws.{steps_next, kernels}
use Rattle.kernel_right_transpose.specs.RightTranspose.{lower_transpose_rightsolve}
use Rattle.kernel_right_transpose.proofs.cores.lower_transpose_rightsolve_core.Goals as goal

pub loop-j-preserved : goal.loop-j-preserved
loop-j-preserved c = (search rules, search rules, steps_next _ _ _ _ _ c.loop-j.invariant.2 (rw (c.store.ensures, c.less_before-s.ensures)))

pub returns : goal.returns
unfolding lower_transpose_rightsolve
returns c = search kernels

pub loop-r-init : goal.loop-r-init
loop-r-init c = search kernels

pub loop-j-init : goal.loop-j-init
loop-j-init c = search kernels

pub loop-r-preserved : goal.loop-r-preserved
loop-r-preserved c = search kernels
