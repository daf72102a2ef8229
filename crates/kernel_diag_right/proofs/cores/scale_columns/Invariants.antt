-- `kernel_diag_right::cores::scale_columns` meets its contract: how far each loop of the definition is, whatever the factors are. Assumes nothing.
use Rattle.std.specs.Prelude.{◌≡◌, ℕ, ◌*◌, ◌<◌, ◌≤◌, Float, length}
use Rattle.scalar.specs.Loop.{steps}
use Rattle.kernel_diag_right.specs.DiagRight.{scale_column, columns_scaled}
use Rattle.kernel_diag_right.proofs.cores.scale_columns.Given as goal

abbrev pub invariant-loop-r : goal.invariant-loop-r
invariant-loop-r g l = (l.r ≤ l.m) × (length l.y ≡ l.m * l.n) × (l.y ≡ steps (scale_column l.m l.j l.by) l.r l.initial.y)

abbrev pub invariant-loop-j : goal.invariant-loop-j
invariant-loop-j g l = (l.j ≤ l.n) × (length l.y ≡ l.m * l.n) × ((f : ℕ → Float) → ((j : ℕ) (v : Float) → j < l.n → goal.F-post g l.factor j v → v ≡ f j) → l.y ≡ columns_scaled l.m l.j f l.initial.y)
