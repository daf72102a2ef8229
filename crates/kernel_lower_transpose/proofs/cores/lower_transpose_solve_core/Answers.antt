-- `kernel_lower_transpose::cores::lower_transpose_solve_core` meets its contract: as `kernel_lower::cores::lower_solve_core`; the indices count down, the loops do not. Assumes nothing.
use borrow.Author.Rules.{rules}
use Rattle.kernel_lower_transpose.specs.Transpose.{lower_transpose_solve}
use Rattle.scalar.proofs.Laws.{steps_next, steps_all, kernels}
use Rattle.kernel_lower_transpose.proofs.cores.lower_transpose_solve_core.Goals as goal

pub loop-u-preserved : goal.loop-u-preserved
loop-u-preserved c = (search rules, steps_next _ _ _ _ _ c.loop-u.invariant.1 (cc))

pub loop-t-preserved : goal.loop-t-preserved
loop-t-preserved c =
    let t = c.loop-t.t in (
      search rules,
      search rules,
      steps_next _ _ _ _ _ c.loop-t.invariant.2
          (rw (steps_all _ _ t _ _ c.loop-u.invariant.1 (search rules) (search rules))),
    )

pub returns : goal.returns
unfolding lower_transpose_solve
returns c = search kernels

pub loop-t-init : goal.loop-t-init
loop-t-init c = search kernels

pub loop-u-init : goal.loop-u-init
loop-u-init c = search kernels
