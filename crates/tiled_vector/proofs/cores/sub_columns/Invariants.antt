-- `tiled_vector::cores::sub_columns` meets its contract: the invariant: how many numbers have lost their sums. Assumes nothing.
use Rattle.std.specs.Prelude.{◌≡◌, ◌-◌, ◌≤◌, length}
use Rattle.kernel_vector_transpose.specs.VectorTranspose.{column_sum}
use Rattle.tiled_vector.specs.TiledVector.{each_less}
use Rattle.tiled_vector.proofs.cores.sub_columns.Given as goal

abbrev pub invariant-loop-c : goal.invariant-loop-c
invariant-loop-c l = (l.c ≤ l.w) × (length l.x ≡ length l.initial.x) × (l.x ≡ each_less (column_sum l.h l.a l.b) l.c l.initial.x)

abbrev pub decreases-loop-c : goal.decreases-loop-c
decreases-loop-c l = l.w - l.c
