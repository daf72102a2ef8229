-- `tiled_vector::cores::columns` meets its contract. Assumes nothing.
use mathlib.Core.Path.{◌∙◌}
use Rattle.kernel_vector_transpose.specs.VectorTranspose.{column_sum}
use Rattle.tiled_vector.proofs.Parts.{held-less}
use Rattle.tiled_vector.proofs.cores.columns.Goals as goal

pub returns : goal.returns
returns g c = let x = c.args in c.less.ensures ∙ held-less (column_sum x.h x.a.now x.b.now) x.c g.row.N _ _ c.column_sums-q.ensures
