-- `kernel_vector::cores::row_sum` meets its contract: the invariant: how far the sum is. Assumes nothing.
use Rattle.std.specs.Prelude.{◌≡◌, ◌≤◌, get_or}
use lib.Ieee.{nan}
use Rattle.scalar.specs.Loop.{steps}
use Rattle.scalar.specs.Block.{at, gain}
use Rattle.scalar.specs.Scalar.{nought}
use Rattle.kernel_vector.proofs.cores.row_sum.Given as goal

abbrev pub invariant-loop-c : goal.invariant-loop-c
invariant-loop-c l = (l.c ≤ l.n) × (l.s ≡ steps (λ c s. gain s (at l.a l.m l.r c) (get_or l.b c nan)) l.c nought)
