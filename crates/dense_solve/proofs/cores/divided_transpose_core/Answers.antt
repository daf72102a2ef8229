-- `dense_solve::cores::divided_transpose_core` meets its contract: as `kernel_lower_transpose::cores::lower_transpose_solve_core`, but that the
-- numbers before the rows done are not divided yet. Assumes nothing.
use native.Mathlib.Omega.{arith}
use borrow.Author.Rules.{rules}
use Rattle.scalar.proofs.Laws.{steps_next, steps_all, kernels}
use Rattle.dense_solve.proofs.Division.{ahead_none, ahead_more, ahead_all}
use Rattle.dense_solve.proofs.cores.divided_transpose_core.Goals as goal

pub loop-t-init : goal.loop-t-init
loop-t-init c = (search rules, search rules, ahead_none _ _ _ _)

pub loop-u-preserved : goal.loop-u-preserved
loop-u-preserved c = (search rules, steps_next _ _ _ _ _ c.loop-u.invariant.1 (cc))

pub loop-t-preserved : goal.loop-t-preserved
loop-t-preserved c =
    let l = c.loop-t in
    (search rules, search rules, ahead_more _ _ _ _ l.t l.x _ (omega arith) l.invariant.1 l.invariant.2 (steps_all _ _ l.t _ _ c.loop-u.invariant.1 (search rules) (search rules)))

pub returns : goal.returns
returns c = ahead_all _ _ _ _ c.loop-t.t _ (search rules) (search rules) c.loop-t.invariant.2

pub loop-u-init : goal.loop-u-init
loop-u-init c = search kernels
