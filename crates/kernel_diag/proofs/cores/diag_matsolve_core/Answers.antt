-- `kernel_diag::cores::diag_matsolve_core` meets its contract: two loops, two invariants: how far each loop of the definition is. Assumes nothing.
use borrow.Author.Rules.{rules}
use Rattle.scalar.proofs.Laws.{steps_next, steps_all, kernels}
use Rattle.kernel_diag.specs.Diag.{diag_matsolve}
use Rattle.kernel_diag.proofs.cores.diag_matsolve_core.Goals as goal

pub loop-c-preserved : goal.loop-c-preserved
loop-c-preserved c = (search rules, search rules, steps_next _ _ _ _ _ c.loop-c.invariant.2 (rw (c.store.ensures, c.entry.ensures)))

pub loop-i-preserved : goal.loop-i-preserved
loop-i-preserved c = (search rules, search rules, steps_next _ _ _ _ _ c.loop-i.invariant.2 (rw (← c.inverse_of-by.ensures) (steps_all _ _ _ _ _ c.loop-c.invariant.2 (search rules) (search rules))))

pub returns : goal.returns
unfolding diag_matsolve
returns c = search kernels

pub loop-i-init : goal.loop-i-init
loop-i-init c = search kernels

pub loop-c-init : goal.loop-c-init
loop-c-init c = search kernels
