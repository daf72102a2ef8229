-- `c_abi::beyqaloosh_ldlt_solve_inplace` meets its contract: the number of what the call answers. Assumes nothing.
use Rattle.c_abi.proofs.Laws.{numbers}
use Rattle.c_abi.proofs.beyqaloosh_ldlt_solve_inplace.Goals as goal

pub returns : goal.returns
returns c = numbers c.ldlt_solve_inplace.ensures c.number_of.ensures
