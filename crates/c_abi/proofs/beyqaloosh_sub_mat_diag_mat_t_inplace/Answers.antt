-- `c_abi::beyqaloosh_sub_mat_diag_mat_t_inplace` meets its contract: the number of what the call answers. Assumes nothing.
use Rattle.c_abi.proofs.Laws.{numbers}
use Rattle.c_abi.proofs.beyqaloosh_sub_mat_diag_mat_t_inplace.Goals as goal

pub returns : goal.returns
returns c = numbers c.sub_mat_diag_mat_t_inplace.ensures c.number_of.ensures
