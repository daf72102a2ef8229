-- `tiled_right::cores::rows` meets its contract: the invariants: how far the tile is. Assumes nothing.
use Rattle.std.specs.Prelude.{◌≡◌, ◌-◌, ◌*◌, ◌≤◌, length}
use Rattle.tiled_right.proofs.Tiles.{Tile}
use Rattle.tiled_right.proofs.cores.rows.Given as goal

abbrev pub invariant-loop-j : goal.invariant-loop-j
invariant-loop-j g l = (l.j-counter ≤ l.n) × (length l.x ≡ l.m * l.n) × Tile l.m l.n l.l l.d l.from l.i g.row.N l.initial.x l.j-counter l.n l.x

abbrev pub invariant-loop-u : goal.invariant-loop-u
invariant-loop-u g l = (l.u ≤ l.n) × (length l.x ≡ l.m * l.n) × Tile l.m l.n l.l l.d l.from l.i g.row.N l.initial.x (l.n - l.u) (l.n - l.u) l.x
