-- `tiled_right::cores::times` meets its contract: the entries that are multiplied, and those that are not. Assumes nothing.
use Rattle.std.specs.Prelude.{◌≡◌, ◌≤◌, length, get_or, ℕ}
use lib.Ieee.{nan, binary64, mul}
use Rattle.tiled_product.specs.Tiled.{Holds}
use Rattle.tiled_right.proofs.cores.times.Given as goal

abbrev pub invariant-loop-q : goal.invariant-loop-q
invariant-loop-q g l =
    (l.q ≤ g.row.N) × (length l.z ≡ g.row.N) × Holds l.q (λ q. mul binary64 (get_or l.initial.z q nan) l.by) l.z × ((q : ℕ) → l.q ≤ q → get_or l.z q nan ≡ get_or l.initial.z q nan)
