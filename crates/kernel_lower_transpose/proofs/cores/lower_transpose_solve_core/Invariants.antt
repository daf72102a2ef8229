-- `kernel_lower_transpose::cores::lower_transpose_solve_core` meets its contract: as `kernel_lower::cores::lower_solve_core`; the indices count down, the loops do not. Assumes nothing.
use Rattle.std.specs.Prelude.{◌≡◌, ◌+◌, ◌-◌, ◌≤◌, length, get_or}
use lib.Ieee.{nan}
use Rattle.scalar.specs.Loop.{steps}
use Rattle.scalar.specs.Block.{at, lose}
use Rattle.kernel_lower_transpose.specs.Transpose.{transpose_row}
use Rattle.kernel_lower_transpose.proofs.cores.lower_transpose_solve_core.Given as goal

abbrev pub invariant-loop-u : goal.invariant-loop-u
invariant-loop-u l = (l.u ≤ l.t) × (l.s ≡ steps (λ u s. lose s (at l.l l.n (l.i + 1 + u) l.i) (get_or l.y (l.i + 1 + u) nan)) l.u (get_or l.y l.i nan))

abbrev pub invariant-loop-t : goal.invariant-loop-t
invariant-loop-t l = (l.t ≤ l.n) × (length l.y ≡ l.n) × (l.y ≡ steps (λ t. transpose_row l.n l.l (l.n - 1 - t) t) l.t l.initial.y)
