-- `c_abi::beyqaloosh_solve_inplace_vec` meets its contract: the number of what the call answers. Assumes nothing.
use Rattle.c_abi.proofs.Laws.{numbers}
use Rattle.c_abi.proofs.beyqaloosh_solve_inplace_vec.Goals as goal

pub returns : goal.returns
returns c = numbers c.solve_inplace_vec.ensures c.number_of.ensures
