-- `order::cores::sizes` meets its contract. Assumes nothing.
use Rattle.std.specs.Prelude.{◌≡◌, ◌≤◌, ◌++◌, length, take, drop}
use Rattle.order.specs.Order.{sizes_of}
use Rattle.order.proofs.cores.sizes.Given as goal

abbrev pub invariant-loop-old : goal.invariant-loop-old
invariant-loop-old l = (l.old-index ≤ length l.initial.order) × (length l.order ≡ length l.initial.order) × (l.order ≡ take l.old-index (sizes_of l.dims l.initial.order) ++ drop l.old-index l.initial.order)
