-- `kernel_right_transpose::cores::less_before` meets its contract: the invariant: how far the sum is. Assumes nothing.
use Rattle.std.specs.Prelude.{◌≡◌, ◌≤◌}
use Rattle.scalar.specs.Loop.{steps}
use Rattle.scalar.specs.Block.{at, lose}
use Rattle.kernel_right_transpose.proofs.cores.less_before.Given as goal

abbrev pub invariant-loop-t : goal.invariant-loop-t
invariant-loop-t l = (l.t ≤ l.j) × (l.s ≡ steps (λ t s. lose s (at l.x l.m l.r t) (at l.l l.n l.j t)) l.t (at l.x l.m l.r l.j))
