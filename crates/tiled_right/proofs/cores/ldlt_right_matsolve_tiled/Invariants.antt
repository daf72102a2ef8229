-- `tiled_right::cores::ldlt_right_matsolve_tiled` meets its contract: the invariant: the rows above i are solved. Assumes nothing.
use Rattle.std.specs.Prelude.{◌≡◌, ◌-◌, ◌*◌, ◌≤◌, length}
use Rattle.tiled_right.proofs.Tiles.{Above}
use Rattle.tiled_right.proofs.cores.ldlt_right_matsolve_tiled.Given as goal

abbrev pub invariant-loop-i : goal.invariant-loop-i
invariant-loop-i l = (l.i ≤ l.m) × (length l.x ≡ l.m * l.n) × Above l.m l.n l.l l.d l.from l.i l.x

abbrev pub decreases-loop-i : goal.decreases-loop-i
decreases-loop-i l = l.m - l.i
