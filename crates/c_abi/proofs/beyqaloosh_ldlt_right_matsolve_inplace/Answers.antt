-- `c_abi::beyqaloosh_ldlt_right_matsolve_inplace` meets its contract: the number of what the call answers. Assumes nothing.
use Rattle.c_abi.proofs.Laws.{numbers}
use Rattle.c_abi.proofs.beyqaloosh_ldlt_right_matsolve_inplace.Goals as goal

pub returns : goal.returns
returns c = numbers c.ldlt_right_matsolve_inplace.ensures c.number_of.ensures
