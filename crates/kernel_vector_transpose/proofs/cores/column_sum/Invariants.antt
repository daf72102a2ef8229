-- `kernel_vector_transpose::cores::column_sum` meets its contract: the invariant: how far the sum is. Assumes nothing.
use Rattle.std.specs.Prelude.{◌≡◌, ◌≤◌, get_or}
use lib.Ieee.{nan}
use Rattle.scalar.specs.Loop.{steps}
use Rattle.scalar.specs.Block.{at, gain}
use Rattle.scalar.specs.Scalar.{nought}
use Rattle.kernel_vector_transpose.proofs.cores.column_sum.Given as goal

abbrev pub invariant-loop-r : goal.invariant-loop-r
invariant-loop-r l = (l.r ≤ l.m) × (l.s ≡ steps (λ r s. gain s (at l.a l.m r l.c) (get_or l.z r nan)) l.r nought)
