-- `dense_rows::cores::reduced` meets its contract: a turn's result is the definition's by what `entry` ensures, which `cc` finds. Assumes nothing.
use Rattle.std.specs.Prelude.{◌≡◌, ◌-◌, ◌≤◌}
use Rattle.scalar.specs.Loop.{steps}
use Rattle.scalar.specs.Block.{at}
use Rattle.dense_rows.specs.Row.{lose_scaled}
use Rattle.dense_rows.proofs.cores.reduced.Given as goal

abbrev pub invariant-loop-p : goal.invariant-loop-p
invariant-loop-p l = (l.p ≤ l.k) × (l.s ≡ steps (lose_scaled l.n l.j l.k l.a l.d) l.p (at l.a l.n l.j l.k))

abbrev pub decreases-loop-p : goal.decreases-loop-p
decreases-loop-p l = l.k - l.p
