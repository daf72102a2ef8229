-- `kernel_lower::cores::lower_solve_core` meets its contract: two loops, two invariants: how far each loop of the definition is. Assumes nothing.
use borrow.Author.Rules.{rules}
use Rattle.kernel_lower.specs.Lower.{lower_solve}
use Rattle.scalar.proofs.Laws.{steps_next, steps_all, kernels}
use Rattle.kernel_lower.proofs.cores.lower_solve_core.Goals as goal

pub loop-k-preserved : goal.loop-k-preserved
loop-k-preserved c = (search rules, steps_next _ _ _ _ _ c.loop-k.invariant.1 (cc))

pub loop-i-preserved : goal.loop-i-preserved
loop-i-preserved c =
    let i = c.loop-i.i in (
      search rules,
      search rules,
      steps_next _ _ _ _ _ c.loop-i.invariant.2
          (rw (steps_all _ _ i _ _ c.loop-k.invariant.1 (search rules) (search rules))),
    )

pub returns : goal.returns
unfolding lower_solve
returns c = search kernels

pub loop-i-init : goal.loop-i-init
loop-i-init c = search kernels

pub loop-k-init : goal.loop-k-init
loop-k-init c = search kernels
