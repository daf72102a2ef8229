-- `tiled_vector::cores::column_sums` meets its contract: how far the sums are. Assumes nothing.
use Rattle.std.specs.Prelude.{◌≤◌, get_or}
use lib.Ieee.{nan}
use Rattle.scalar.specs.Block.{at}
use Rattle.tiled_vector.proofs.Parts.{Sums}
use Rattle.tiled_vector.proofs.cores.column_sums.Given as goal

abbrev pub invariant-loop-r : goal.invariant-loop-r
invariant-loop-r g l = (l.r ≤ l.h) × Sums (λ u q. at l.a l.h u q) (λ u. get_or l.b u nan) l.c l.r g.row.N l.q
