-- `tiled_product::cores::keep` meets its contract: the entries written so far. Assumes nothing.
use Rattle.std.specs.Prelude.{◌≡◌, ◌*◌, ◌≤◌, length}
use Rattle.tiled_product.specs.Tiled.{put_down}
use Rattle.tiled_product.proofs.cores.keep.Given as goal

abbrev pub invariant-loop-q : goal.invariant-loop-q
invariant-loop-q g l = (l.q ≤ g.row.N) × (length l.y ≡ l.h * l.w) × (l.y ≡ put_down l.h l.j l.i l.q l.s l.initial.y)
