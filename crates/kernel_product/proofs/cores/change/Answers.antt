-- `kernel_product::cores::change` meets its contract. Assumes nothing.
use borrow.Author.Rules.{rules}
use Rattle.scalar.proofs.Laws.{steps_next, steps_all, kernels}
use Rattle.kernel_product.proofs.cores.change.Goals as goal

pub loop-t-init : goal.loop-t-init
loop-t-init g c = search kernels

pub loop-j-init : goal.loop-j-init
loop-j-init g c = search kernels

pub loop-i-init : goal.loop-i-init
loop-i-init g c = search kernels

pub loop-i-preserved : goal.loop-i-preserved
loop-i-preserved g c = (
  search rules,
  search rules,
  steps_next _ _ _ _ _ c.loop-i.invariant.2
      (rw (c.store.ensures, c.step-v.ensures, c.entry-in-loop-i.ensures, c.entry-in-loop-i-2.ensures)),
)

pub loop-j-preserved : goal.loop-j-preserved
loop-j-preserved g c = (
  search rules,
  search rules,
  steps_next _ _ _ _ _ c.loop-j.invariant.2
      (rw (← c.entry.ensures) (steps_all _ _ _ _ _ c.loop-i.invariant.2 (search rules) (search rules))),
)

pub loop-t-preserved : goal.loop-t-preserved
loop-t-preserved g c = search kernels

pub returns : goal.returns
returns g c = search kernels
