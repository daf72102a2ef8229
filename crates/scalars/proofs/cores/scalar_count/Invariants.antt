-- `scalars::cores::scalar_count` meets its contract: a sum, one turn a block; no dimension is above 16. Assumes nothing.
use Rattle.std.specs.Prelude.{◌≡◌, ◌*◌, ◌≤◌, length}
use Rattle.buckets.specs.Buckets.{before}
use Rattle.scalars.proofs.cores.scalar_count.Given as goal

abbrev pub invariant-loop-dim : goal.invariant-loop-dim
invariant-loop-dim l = (l.dim-index ≤ length l.dims) × (l.sum ≡ before l.dims l.dim-index) × (l.sum ≤ 16 * l.dim-index)
