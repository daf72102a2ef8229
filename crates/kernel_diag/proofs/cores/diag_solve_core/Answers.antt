-- `kernel_diag::cores::diag_solve_core` meets its contract: the invariant: how far the loop of the definition is. Assumes nothing.
use borrow.Author.Rules.{rules}
use Rattle.scalar.proofs.Laws.{steps_next, kernels}
use Rattle.kernel_diag.specs.Diag.{diag_solve}
use Rattle.kernel_diag.proofs.cores.diag_solve_core.Goals as goal

pub loop-i-preserved : goal.loop-i-preserved
loop-i-preserved c = (search rules, search rules, steps_next _ _ _ _ _ c.loop-i.invariant.2 (rw c.quotient_of.ensures))

pub returns : goal.returns
unfolding diag_solve
returns c = search kernels

pub loop-i-init : goal.loop-i-init
loop-i-init c = search kernels
