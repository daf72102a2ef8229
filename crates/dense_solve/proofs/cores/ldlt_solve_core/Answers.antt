-- `dense_solve::cores::ldlt_solve_core` meets its contract: forward, then the diagonal and backward in one. Assumes nothing.
use Rattle.dense_solve.specs.Solve.{ldlt_solve}
use Rattle.dense_solve.proofs.cores.ldlt_solve_core.Goals as goal

pub returns : goal.returns
unfolding ldlt_solve
returns c = rw (c.divided_transpose_core.ensures, c.lower_solve_core.ensures)
