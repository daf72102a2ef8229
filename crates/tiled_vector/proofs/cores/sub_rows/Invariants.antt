-- `tiled_vector::cores::sub_rows` meets its contract: the invariant: how many numbers have lost their sums. Assumes nothing.
use Rattle.std.specs.Prelude.{◌≡◌, ◌-◌, ◌≤◌, length}
use Rattle.kernel_vector.specs.Vector.{row_sum}
use Rattle.tiled_vector.specs.TiledVector.{each_less}
use Rattle.tiled_vector.proofs.cores.sub_rows.Given as goal

abbrev pub invariant-loop-r : goal.invariant-loop-r
invariant-loop-r l = (l.r ≤ l.h) × (length l.y ≡ length l.initial.y) × (l.y ≡ each_less (row_sum l.h l.w l.a l.b) l.r l.initial.y)

abbrev pub decreases-loop-r : goal.decreases-loop-r
decreases-loop-r l = l.h - l.r
