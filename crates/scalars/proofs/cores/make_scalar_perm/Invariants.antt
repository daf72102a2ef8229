-- `scalars::cores::make_scalar_perm` meets its contract. Assumes nothing.
use Rattle.std.specs.Prelude.{◌≡◌, ◌+◌}
use Rattle.buckets.specs.Buckets.{before}
use Rattle.order.specs.Order.{sizes_of}
use Rattle.scalars.specs.Scalars.{scalar_perm}
use Rattle.scalars.proofs.Filling.{Filled}
use Rattle.scalars.proofs.cores.make_scalar_perm.Given as goal

abbrev pub invariant-loop-s : goal.invariant-loop-s
invariant-loop-s l = Filled (scalar_perm l.dims l.order) l.out l.place × (l.place ≡ before (sizes_of l.dims l.order) l.old-index + l.s)

abbrev pub invariant-loop-old : goal.invariant-loop-old
invariant-loop-old l = Filled (scalar_perm l.dims l.order) l.out l.place × (l.place ≡ before (sizes_of l.dims l.order) l.old-index)
