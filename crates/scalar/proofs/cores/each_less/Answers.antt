-- `scalar::cores::each_less` meets its contract: a turn takes one loss. Assumes nothing.
use mathlib.Core.Path.{refl}
use native.Mathlib.Omega.{arith}
use borrow.Author.Rules.{rules}
use Rattle.scalar.proofs.Laws.{steps-none, steps_next, steps_all}
use Rattle.scalar.proofs.cores.each_less.Goals as goal

pub loop-k-init : goal.loop-k-init
loop-k-init g c = (search rules, search rules, λ f h. steps-none _ _ _ refl)

pub loop-k-preserved : goal.loop-k-preserved
loop-k-preserved g c = (search rules, search rules, λ f h. steps_next _ _ _ _ _ (c.loop-k.invariant.2 f h) (rw (h _ _ (omega arith) c.loss.ensures)))

pub returns : goal.returns
returns g c = λ f h. steps_all _ _ _ _ _ (c.loop-k.invariant.2 f h) (omega arith) (omega arith)
