-- `scalar::cores::each_column` meets its contract: a turn changes one column, which lies in y. Assumes nothing.
use mathlib.Core.Path.{refl}
use native.Mathlib.Nat.{add-sub_cancel_left}
use borrow.Author.Rules.{rules}
use Rattle.scalar.proofs.Laws.{steps-none, steps_next, steps_all}
use Rattle.scalar.proofs.cores.each_column.Goals as goal

pub loop-c-init : goal.loop-c-init
loop-c-init g c = (search rules, search rules, λ f h. steps-none _ _ _ refl)

pub loop-c-preserved : goal.loop-c-preserved
loop-c-preserved g c = (search rules, search rules, λ f h. steps_next _ _ _ _ _ (c.loop-c.invariant.2 f h) (rw (h _ _ (search rules) c.step.ensures, add-sub_cancel_left)))

pub returns : goal.returns
returns g c = λ f h. steps_all _ _ _ _ _ (c.loop-c.invariant.2 f h) (search rules) (search rules)
