-- `tiled_product::cores::entries` meets its contract: the entries held so far. Assumes nothing.
use Rattle.std.specs.Prelude.{◌≡◌, ◌+◌, ◌≤◌, length}
use Rattle.scalar.specs.Block.{at}
use Rattle.tiled_product.specs.Tiled.{Holds}
use Rattle.tiled_product.proofs.cores.entries.Given as goal

abbrev pub invariant-loop-q : goal.invariant-loop-q
invariant-loop-q g l = (l.q ≤ g.row.N) × (length l.s ≡ g.row.N) × Holds l.q (λ q. at l.y l.h (l.i + q) l.j) l.s
