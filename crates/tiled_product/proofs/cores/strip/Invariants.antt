-- `tiled_product::cores::strip` meets its contract: how far the columns are. Assumes nothing.
use Rattle.std.specs.Prelude.{◌≡◌, ◌-◌, ◌*◌, ◌≤◌, length}
use Rattle.tiled_product.specs.Tiled.{Stripped, worked_on}
use Rattle.tiled_product.proofs.cores.strip.Given as goal

abbrev pub invariant-loop-i : goal.invariant-loop-i
invariant-loop-i g l =
    (l.i ≤ l.h) × (length l.y ≡ l.h * l.w) × Stripped l.h l.w (worked_on (g.P.Product.formula l.p) l.h l.initial.y) l.j.c0 l.j.c1 l.j.c2 l.i l.initial.y l.y

abbrev pub decreases-loop-i : goal.decreases-loop-i
decreases-loop-i g l = l.h - l.i
