-- `dense_solve::cores::divided_transpose_core` meets its contract: as `kernel_lower_transpose::cores::lower_transpose_solve_core`, but that the
-- numbers before the rows done are not divided yet. Assumes nothing.
use Rattle.std.specs.Prelude.{◌≡◌, ◌≤◌, length}
use Rattle.dense_solve.proofs.Division.{quotient_at, loses, Ahead}
use Rattle.dense_solve.proofs.cores.divided_transpose_core.Given as goal

abbrev pub invariant-loop-u : goal.invariant-loop-u
invariant-loop-u l = (l.u ≤ l.t) × (l.s ≡ loses l.n l.l l.i l.u l.x (quotient_at l.d l.x l.i))

abbrev pub invariant-loop-t : goal.invariant-loop-t
invariant-loop-t l = (l.t ≤ l.n) × (length l.x ≡ l.n) × Ahead l.n l.l l.d l.initial.x l.t l.x
