-- `marks::cores::mark_scalars` meets its contract: the invariants: the first scalars by new number are marked and counted (`UpTo`). Assumes nothing.
use Rattle.std.specs.Prelude.{◌≡◌, ◌+◌, ◌≤◌, length}
use Rattle.buckets.specs.Buckets.{before}
use Rattle.order.specs.Order.{sizes_of}
use Rattle.marks.proofs.MarkLaws.{UpTo}
use Rattle.marks.proofs.cores.mark_scalars.Given as goal

abbrev pub invariant-loop-s : goal.invariant-loop-s
invariant-loop-s l = (l.place ≡ before (sizes_of l.dims l.order) l.block-index + l.s) × UpTo l.dims l.order l.tol l.d l.marks l.silent l.place

abbrev pub invariant-loop-block : goal.invariant-loop-block
invariant-loop-block l = (l.block-index ≤ length l.order) × (l.place ≡ before (sizes_of l.dims l.order) l.block-index) × UpTo l.dims l.order l.tol l.d l.marks l.silent l.place
