-- `solve::solve_inplace` meets its contract: refused, nothing is written; else the core solves. Assumes nothing.
use mathlib.Core.Path.{sym, ap}
use Rattle.refusal.specs.Refusal.{refuses}
use Rattle.solve.specs.Solve.{called}
use Rattle.solve.proofs.Laws.{ready, roomy, answered}
use Rattle.solve.proofs.solve_inplace.Goals as goal

pub solve_lent-requires-clause-solvable : goal.solve_lent-requires-clause-solvable
solve_lent-requires-clause-solvable c =
    ready (called c.args.night.now c.args.factor.now c.args.lent.now) (ap refuses (sym c.in_ok-check_call.ensures))

pub solve_lent-requires-clause-x_len : goal.solve_lent-requires-clause-x_len
solve_lent-requires-clause-x_len c =
    roomy (called c.args.night.now c.args.factor.now c.args.lent.now) (ap refuses (sym c.in_ok-check_call.ensures))

pub returns-clause-solves : goal.returns-clause-solves
returns-clause-solves c =
    answered (called c.args.night.now c.args.factor.now c.args.lent.now) _ _ _ _ _ c.in_ok-check_call.ensures
    c.solve_lent.ensures.solved_by c.solve_lent.ensures.cleared
