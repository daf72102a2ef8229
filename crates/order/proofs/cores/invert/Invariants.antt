-- `order::cores::invert` meets its contract. Assumes nothing.
use Rattle.std.specs.Prelude.{◌≡◌, ℕ, ◌<◌, ◌≤◌, length, get_or}
use Rattle.order.proofs.cores.invert.Given as goal

abbrev pub invariant-loop-k : goal.invariant-loop-k
invariant-loop-k l = (l.k ≤ length l.initial.inverse) × (length l.inverse ≡ length l.initial.inverse) × ((i : ℕ) → i < l.k → get_or l.inverse (get_or l.order i 0) 0 ≡ i)
