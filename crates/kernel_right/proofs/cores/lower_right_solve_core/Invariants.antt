-- `kernel_right::cores::lower_right_solve_core` meets its contract: two loops, two invariants: how far each loop of the definition is. Assumes nothing.
use Rattle.std.specs.Prelude.{◌≡◌, ◌*◌, ◌≤◌, length}
use Rattle.scalar.specs.Loop.{steps}
use Rattle.kernel_right.specs.Right.{right_entry}
use Rattle.kernel_right.proofs.cores.lower_right_solve_core.Given as goal

abbrev pub invariant-loop-u : goal.invariant-loop-u
invariant-loop-u l = (l.u ≤ l.n) × (length l.x ≡ l.m * l.n) × (l.x ≡ steps (right_entry l.m l.n l.l l.r) l.u l.initial.x)

abbrev pub invariant-loop-r : goal.invariant-loop-r
invariant-loop-r l = (l.r ≤ l.m) × (length l.x ≡ l.m * l.n) × (l.x ≡ steps (λ r. steps (right_entry l.m l.n l.l r) l.n) l.r l.initial.x)
