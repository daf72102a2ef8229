-- `kernel_lower::cores::lower_solve_core` meets its contract: two loops, two invariants: how far each loop of the definition is. Assumes nothing.
use Rattle.std.specs.Prelude.{◌≡◌, ◌≤◌, length, get_or}
use lib.Ieee.{nan}
use Rattle.scalar.specs.Loop.{steps}
use Rattle.scalar.specs.Block.{at, lose}
use Rattle.kernel_lower.specs.Lower.{lower_row}
use Rattle.kernel_lower.proofs.cores.lower_solve_core.Given as goal

abbrev pub invariant-loop-k : goal.invariant-loop-k
invariant-loop-k l = (l.k ≤ l.i) × (l.s ≡ steps (λ j s. lose s (at l.l l.n l.i j) (get_or l.y j nan)) l.k (get_or l.y l.i nan))

abbrev pub invariant-loop-i : goal.invariant-loop-i
invariant-loop-i l = (l.i ≤ l.n) × (length l.y ≡ l.n) × (l.y ≡ steps (lower_row l.n l.l) l.i l.initial.y)
