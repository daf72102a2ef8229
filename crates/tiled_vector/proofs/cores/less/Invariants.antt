-- `tiled_vector::cores::less` meets its contract: the numbers that have lost their sums. Assumes nothing.
use Rattle.std.specs.Prelude.{◌≡◌, ◌≤◌, length}
use Rattle.tiled_vector.specs.TiledVector.{less_held}
use Rattle.tiled_vector.proofs.cores.less.Given as goal

abbrev pub invariant-loop-q : goal.invariant-loop-q
invariant-loop-q g l = (l.q ≤ g.row.N) × (length l.z ≡ length l.initial.z) × (l.z ≡ less_held l.i l.q l.s l.initial.z)
