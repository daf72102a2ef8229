-- `kernel_diag::cores::diag_matsolve_core` meets its contract: two loops, two invariants: how far each loop of the definition is. Assumes nothing.
use Rattle.std.specs.Prelude.{◌≡◌, ◌*◌, ◌≤◌, length, get_or}
use lib.Ieee.{nan}
use Rattle.scalar.specs.Loop.{steps}
use Rattle.kernel_diag.specs.Diag.{inverse, scale_row}
use Rattle.kernel_diag.proofs.cores.diag_matsolve_core.Given as goal

abbrev pub invariant-loop-c : goal.invariant-loop-c
invariant-loop-c l = (l.c ≤ l.nrhs) × (length l.y ≡ l.n * l.nrhs) × (l.y ≡ steps (scale_row l.n l.i l.by) l.c l.initial.y)

abbrev pub invariant-loop-i : goal.invariant-loop-i
invariant-loop-i l = (l.i ≤ l.n) × (length l.y ≡ l.n * l.nrhs) × (l.y ≡ steps (λ i. steps (scale_row l.n i (inverse (get_or l.d i nan))) l.nrhs) l.i l.initial.y)
