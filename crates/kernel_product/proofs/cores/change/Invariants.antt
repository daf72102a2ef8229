-- `kernel_product::cores::change` meets its contract: three loops, three invariants: how far each loop of the definition is. Assumes nothing.
use Rattle.std.specs.Prelude.{◌≡◌, ◌*◌, ◌≤◌, length}
use Rattle.scalar.specs.Loop.{steps}
use Rattle.kernel_product.specs.Product.{change_entry, change_column}
use Rattle.kernel_product.proofs.cores.change.Given as goal

abbrev pub invariant-loop-i : goal.invariant-loop-i
invariant-loop-i g l = (l.i ≤ l.m) × (length l.y ≡ l.m * l.n) × (l.y ≡ steps (change_entry g.S.Step.step l.m l.a l.t l.bj l.j) l.i l.initial.y)

abbrev pub invariant-loop-j : goal.invariant-loop-j
invariant-loop-j g l = (l.j ≤ l.n) × (length l.y ≡ l.m * l.n) × (l.y ≡ steps (change_column g.S.Step.step l.m l.n l.a l.d l.b l.t) l.j l.initial.y)

abbrev pub invariant-loop-t : goal.invariant-loop-t
invariant-loop-t g l = (l.t ≤ l.k) × (length l.y ≡ l.m * l.n) × (l.y ≡ steps (λ t. steps (change_column g.S.Step.step l.m l.n l.a l.d l.b t) l.n) l.t l.initial.y)
