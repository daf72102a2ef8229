-- `kernel_right_transpose::cores::lower_transpose_rightsolve_core` meets its contract: two loops, two invariants: how far each loop of the definition is. Assumes nothing.
use Rattle.std.specs.Prelude.{◌≡◌, ◌*◌, ◌≤◌, length}
use Rattle.scalar.specs.Loop.{steps}
use Rattle.kernel_right_transpose.specs.RightTranspose.{transpose_entry}
use Rattle.kernel_right_transpose.proofs.cores.lower_transpose_rightsolve_core.Given as goal

abbrev pub invariant-loop-j : goal.invariant-loop-j
invariant-loop-j l = (l.j ≤ l.n) × (length l.x ≡ l.m * l.n) × (l.x ≡ steps (transpose_entry l.m l.n l.l l.r) l.j l.initial.x)

abbrev pub invariant-loop-r : goal.invariant-loop-r
invariant-loop-r l = (l.r ≤ l.m) × (length l.x ≡ l.m * l.n) × (l.x ≡ steps (λ r. steps (transpose_entry l.m l.n l.l r) l.n) l.r l.initial.x)
