-- `kernel_diag::cores::diag_solve_core` meets its contract: the invariant: how far the loop of the definition is. Assumes nothing.
use Rattle.std.specs.Prelude.{◌≡◌, ◌≤◌, length, get_or, set}
use lib.Ieee.{nan}
use Rattle.scalar.specs.Loop.{steps}
use Rattle.kernel_diag.specs.Diag.{quotient}
use Rattle.kernel_diag.proofs.cores.diag_solve_core.Given as goal

abbrev pub invariant-loop-i : goal.invariant-loop-i
invariant-loop-i l = (l.i ≤ l.n) × (length l.y ≡ l.n) × (l.y ≡ steps (λ i y. set y i (quotient (get_or y i nan) (get_or l.d i nan))) l.i l.initial.y)
