-- `order::cores::keep` meets its contract. Assumes nothing.
use Rattle.order.proofs.Laws.{Going}
use Rattle.order.proofs.cores.keep.Given as goal

abbrev pub invariant-loop-block : goal.invariant-loop-block
invariant-loop-block l = Going l.flagged l.late l.perm l.initial.order l.at l.order l.place l.block-index
