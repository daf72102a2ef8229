-- `dense_solve_right::cores::ldlt_right_matsolve_core` meets its contract: the three kernels in their order. Assumes nothing.
use Rattle.dense_solve_right.specs.SolveRight.{ldlt_right_matsolve}
use Rattle.dense_solve_right.proofs.cores.ldlt_right_matsolve_core.Goals as goal

pub returns : goal.returns
unfolding ldlt_right_matsolve
returns c = rw (c.lower_right_solve_core.ensures, c.diag_right_matsolve_core.ensures, c.lower_transpose_rightsolve_core.ensures)
