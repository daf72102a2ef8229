-- `dense_solve::cores::ldlt_matsolve_core` meets its contract: the three kernels in their order. Assumes nothing.
use Rattle.dense_solve.specs.Solve.{ldlt_matsolve}
use Rattle.dense_solve.proofs.cores.ldlt_matsolve_core.Goals as goal

pub returns : goal.returns
unfolding ldlt_matsolve
returns c = rw (c.lower_transpose_matsolve_core.ensures, c.diag_matsolve_core.ensures, c.lower_matsolve_core.ensures)
