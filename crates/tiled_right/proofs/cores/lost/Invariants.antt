-- `tiled_right::cores::lost` meets its contract: how far the entries are, whatever the terms are. Assumes nothing.
use Rattle.std.specs.Prelude.{◌≡◌, ℕ, ◌<◌, ◌≤◌, Float, length}
use Rattle.tiled_right.proofs.Tiles.{Lost, Losing}
use Rattle.tiled_right.proofs.cores.lost.Given as goal

abbrev pub invariant-loop-v : goal.invariant-loop-v
invariant-loop-v g l =
    (l.v ≤ l.count) × (length l.z ≡ g.row.N)
    × ((c : ℕ → ℕ) (b : ℕ → Float) → ((v : ℕ) (z : _) → v < l.count → goal.F-post g l.term v z → (z.0 ≡ c v) × (z.1 ≡ b v)) → Lost l.m l.x c b l.i l.initial.z l.v g.row.N l.z)

abbrev pub invariant-loop-q : goal.invariant-loop-q
invariant-loop-q g l =
    (l.q ≤ g.row.N) × (length l.z ≡ g.row.N)
    × ((c : ℕ → ℕ) (b : ℕ → Float) → ((v : ℕ) (z : _) → v < l.count → goal.F-post g l.term v z → (z.0 ≡ c v) × (z.1 ≡ b v)) → Losing l.m l.x c b l.i l.fn.s l.v l.q g.row.N l.z)
