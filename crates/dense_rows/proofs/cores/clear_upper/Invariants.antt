-- `dense_rows::cores::clear_upper` meets its contract: the invariants say how far the two loops of the definition are; `search` finds the rest. Assumes nothing.
use Rattle.std.specs.Prelude.{◌≡◌, ◌+◌, ◌-◌, ◌*◌, ◌≤◌, length}
use Rattle.scalar.specs.Loop.{steps}
use Rattle.scalar.specs.Block.{put}
use Rattle.scalar.specs.Scalar.{nought}
use Rattle.dense_rows.specs.Row.{clear_row}
use Rattle.dense_rows.proofs.cores.clear_upper.Given as goal

abbrev pub invariant-loop-u : goal.invariant-loop-u
invariant-loop-u l = (l.u ≤ l.others) × (length l.a ≡ l.n * l.n) × (l.a ≡ steps (λ u a. put a l.n l.r (l.r + 1 + u) nought) l.u l.initial.a)

abbrev pub decreases-loop-u : goal.decreases-loop-u
decreases-loop-u l = l.others - l.u

abbrev pub invariant-loop-r : goal.invariant-loop-r
invariant-loop-r l = (l.r ≤ l.n) × (length l.a ≡ l.n * l.n) × (l.a ≡ steps (clear_row l.n) l.r l.initial.a)

abbrev pub decreases-loop-r : goal.decreases-loop-r
decreases-loop-r l = l.n - l.r
