-- `dense_rows::cores::clear_upper` meets its contract: the invariants say how far the two loops of the definition are; `search` finds the rest. Assumes nothing.
use Rattle.scalar.proofs.Laws.{kernels}
use Rattle.dense_rows.specs.Row.{clear_upper}
use Rattle.dense_rows.proofs.cores.clear_upper.Goals as goal

pub returns : goal.returns
unfolding clear_upper
returns c = search kernels

pub loop-r-init : goal.loop-r-init
loop-r-init c = search kernels

pub loop-u-init : goal.loop-u-init
loop-u-init c = search kernels

pub loop-u-preserved : goal.loop-u-preserved
loop-u-preserved c = search kernels

pub loop-r-preserved : goal.loop-r-preserved
loop-r-preserved c = search kernels
