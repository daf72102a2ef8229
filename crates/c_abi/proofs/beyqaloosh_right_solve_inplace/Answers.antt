-- `c_abi::beyqaloosh_right_solve_inplace` meets its contract: the number of what the call answers. Assumes nothing.
use Rattle.c_abi.proofs.Laws.{numbers}
use Rattle.c_abi.proofs.beyqaloosh_right_solve_inplace.Goals as goal

pub returns : goal.returns
returns c = numbers c.right_solve_inplace.ensures c.number_of.ensures
