-- `tiled_vector::cores::less` meets its contract. Assumes nothing.
use Rattle.scalar.proofs.Laws.{kernels}
use Rattle.tiled_vector.proofs.cores.less.Goals as goal

pub loop-q-init : goal.loop-q-init
loop-q-init g c = search kernels

pub loop-q-preserved : goal.loop-q-preserved
loop-q-preserved g c = search kernels
