-- `tiled_product::cores::times_diag_core` meets its contract: the factor of a column is its number of d. Assumes nothing.
use Rattle.std.specs.Prelude.{slice_index_or}
use Rattle.std.specs.Float.{nan}
use borrow.Author.Rules.{rules}
use Rattle.tiled_product.specs.Tiled.{times_diag}
use Rattle.tiled_product.proofs.cores.times_diag_core.Goals as goal

pub returns : goal.returns
unfolding times_diag
returns c = c.scale_columns.ensures (λ t. slice_index_or c.args.d.now t nan) (λ t v inside gives. search rules)
