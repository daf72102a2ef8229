-- `tiled_vector::cores::across` meets its contract: the entries held so far. Assumes nothing.
use Rattle.std.specs.Prelude.{◌≡◌, ◌+◌, ◌≤◌, length}
use Rattle.scalar.specs.Block.{at}
use Rattle.tiled_product.specs.Tiled.{Holds}
use Rattle.tiled_vector.proofs.cores.across.Given as goal

abbrev pub invariant-loop-q : goal.invariant-loop-q
invariant-loop-q g l = (l.q ≤ g.row.N) × (length l.s ≡ g.row.N) × Holds l.q (λ q. at l.a l.h l.r (l.c + q)) l.s
