-- `kernel_product::cores::add_mat_diag_mat_t_core` meets its contract. Assumes nothing.
use Rattle.kernel_product.specs.Product.{add_mat_diag_mat_t}
use Rattle.kernel_product.proofs.cores.add_mat_diag_mat_t_core.Goals as goal

pub returns : goal.returns
unfolding add_mat_diag_mat_t
returns c = c.change.ensures
