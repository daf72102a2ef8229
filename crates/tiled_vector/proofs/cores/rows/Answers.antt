-- `tiled_vector::cores::rows` meets its contract. Assumes nothing.
use mathlib.Core.Path.{◌∙◌}
use Rattle.kernel_vector.specs.Vector.{row_sum}
use Rattle.tiled_vector.proofs.Parts.{held-less}
use Rattle.tiled_vector.proofs.cores.rows.Goals as goal

pub returns : goal.returns
returns g c = let x = c.args in c.less.ensures ∙ held-less (row_sum x.h x.w x.a.now x.b.now) x.r g.row.N _ _ c.row_sums-q.ensures
