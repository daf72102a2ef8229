-- `kernel_diag_right::cores::scale_columns` meets its contract: a turn changes one column. Assumes nothing.
use mathlib.Core.Path.{refl}
use borrow.Author.Rules.{rules}
use Rattle.scalar.proofs.Laws.{steps-none, steps_next, steps_all, kernels}
use Rattle.kernel_diag_right.proofs.cores.scale_columns.Goals as goal

pub loop-j-init : goal.loop-j-init
loop-j-init g c = (search rules, search rules, λ f h. steps-none _ _ _ refl)

pub loop-r-init : goal.loop-r-init
loop-r-init g c = search kernels

pub loop-r-preserved : goal.loop-r-preserved
loop-r-preserved g c = (search rules, search rules, steps_next _ _ _ _ _ c.loop-r.invariant.2 (rw (c.store.ensures, c.entry.ensures)))

pub loop-j-preserved : goal.loop-j-preserved
loop-j-preserved g c = (search rules, search rules, λ f h. steps_next _ _ _ _ _ (c.loop-j.invariant.2 f h) (rw (← h _ _ (search rules) c.factor-by.ensures) (steps_all _ _ _ _ _ c.loop-r.invariant.2 (search rules) (search rules))))

pub returns : goal.returns
returns g c = λ f h. steps_all _ _ _ _ _ (c.loop-j.invariant.2 f h) (search rules) (search rules)
