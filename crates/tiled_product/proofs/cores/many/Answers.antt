-- `tiled_product::cores::many` meets its contract. Assumes nothing.
use Rattle.tiled_product.specs.Tiled.{sub_mat_mat_t}
use Rattle.tiled_product.proofs.cores.many.Goals as goal

pub returns : goal.returns
unfolding sub_mat_mat_t
returns c = c.strips.ensures
