-- `dense_rows::cores::divide_row` meets its contract: a turn stores what `divided` gives of what `reduced` gives, and the pivot so far reads no entry that a later turn stores. Assumes nothing.
use Rattle.std.specs.Prelude.{◌≡◌, ◌-◌, ◌*◌, ◌≤◌, length}
use Rattle.scalar.specs.Loop.{steps}
use Rattle.scalar.specs.Block.{at}
use Rattle.dense_rows.specs.Row.{divide_entry, lose_pivot}
use Rattle.dense_rows.proofs.cores.divide_row.Given as goal

abbrev pub invariant-loop-k : goal.invariant-loop-k
invariant-loop-k l = (l.k ≤ l.j) × (length l.a ≡ l.n * l.n) × (l.a ≡ steps (divide_entry l.n l.j l.tolerance l.d) l.k l.initial.a) × (l.x ≡ steps (lose_pivot l.n l.j l.a l.d) l.k (at l.a l.n l.j l.j))

abbrev pub decreases-loop-k : goal.decreases-loop-k
decreases-loop-k l = l.j - l.k
