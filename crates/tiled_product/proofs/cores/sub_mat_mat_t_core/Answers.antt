-- `tiled_product::cores::sub_mat_mat_t_core` meets its contract. Assumes nothing.
use Rattle.tiled_product.specs.Tiled.{sub_mat_mat_t}
use Rattle.tiled_product.proofs.cores.sub_mat_mat_t_core.Goals as goal

pub returns-then-n-eq1 : goal.returns-then-n-eq1
unfolding sub_mat_mat_t
returns-then-n-eq1 c = rw (c.if-m-eq1.true, c.if-n-eq1.true) c.one.ensures
