-- `tiled_vector::cores::gained` meets its contract: the sums that have gained, and those that have not. Assumes nothing.
use Rattle.std.specs.Prelude.{◌≡◌, ◌≤◌, length, get_or, ℕ}
use lib.Ieee.{nan}
use Rattle.scalar.specs.Block.{gain}
use Rattle.tiled_product.specs.Tiled.{Holds}
use Rattle.tiled_vector.proofs.cores.gained.Given as goal

abbrev pub invariant-loop-q : goal.invariant-loop-q
invariant-loop-q g l =
    (l.q ≤ g.row.N) × (length l.z ≡ g.row.N) × (length l.a ≡ g.row.N) × Holds l.q (λ q. gain (get_or l.initial.z q nan) (get_or l.a q nan) l.by) l.z
    × ((q : ℕ) → l.q ≤ q → get_or l.z q nan ≡ get_or l.initial.z q nan)
