-- `kernel_right::cores::less_after` meets its contract: the invariant: how far the sum is. Assumes nothing.
use Rattle.std.specs.Prelude.{◌≡◌, ◌+◌, ◌≤◌}
use Rattle.scalar.specs.Loop.{steps}
use Rattle.scalar.specs.Block.{at, lose}
use Rattle.kernel_right.proofs.cores.less_after.Given as goal

abbrev pub invariant-loop-v : goal.invariant-loop-v
invariant-loop-v l = (l.v ≤ l.u) × (l.s ≡ steps (λ v s. lose s (at l.x l.m l.r (l.j + 1 + v)) (at l.l l.n (l.j + 1 + v) l.j)) l.v (at l.x l.m l.r l.j))
