-- `tiled_product::cores::keep` meets its contract. Assumes nothing.
use borrow.Author.Rules.{rules}
use Rattle.scalar.proofs.Laws.{kernels, steps_next}
use Rattle.tiled_product.proofs.cores.keep.Goals as goal

pub loop-q-init : goal.loop-q-init
loop-q-init g c = search kernels

pub loop-q-preserved : goal.loop-q-preserved
loop-q-preserved g c = (search rules, search rules, steps_next _ _ _ _ _ c.loop-q.invariant.2 c.store.ensures)
