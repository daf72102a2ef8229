-- `kernel_right::cores::lower_right_solve_core` meets its contract: two loops, two invariants: how far each loop of the definition is. Assumes nothing.
use borrow.Author.Rules.{rules}
use Rattle.scalar.proofs.Laws.{steps_next, kernels}
use Rattle.kernel_right.specs.Right.{lower_right_solve}
use Rattle.kernel_right.proofs.cores.lower_right_solve_core.Goals as goal

pub loop-u-preserved : goal.loop-u-preserved
loop-u-preserved c = (search rules, search rules, steps_next _ _ _ _ _ c.loop-u.invariant.2 (rw (c.store.ensures, c.less_after-s.ensures)))

pub returns : goal.returns
unfolding lower_right_solve
returns c = search kernels

pub loop-r-init : goal.loop-r-init
loop-r-init c = search kernels

pub loop-u-init : goal.loop-u-init
loop-u-init c = search kernels

pub loop-r-preserved : goal.loop-r-preserved
loop-r-preserved c = search kernels
