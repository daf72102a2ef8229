-- `tiled_vector::cores::row_sums` meets its contract: how far the sums are. Assumes nothing.
use Rattle.std.specs.Prelude.{◌≤◌, get_or}
use lib.Ieee.{nan}
use Rattle.scalar.specs.Block.{at}
use Rattle.tiled_vector.proofs.Parts.{Sums}
use Rattle.tiled_vector.proofs.cores.row_sums.Given as goal

abbrev pub invariant-loop-c : goal.invariant-loop-c
invariant-loop-c g l = (l.c ≤ l.w) × Sums (λ u q. at l.a l.h q u) (λ u. get_or l.b u nan) l.r l.c g.row.N l.q
