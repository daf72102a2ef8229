-- `tiled_product::cores::strips` meets its contract: the columns done so far. Assumes nothing.
use Rattle.std.specs.Prelude.{◌≡◌, ◌-◌, ◌*◌, length}
use Rattle.tiled_product.specs.Tiled.{worked}
use Rattle.tiled_product.proofs.TileLaws.{Columns}
use Rattle.tiled_product.proofs.cores.strips.Given as goal

abbrev pub invariant-loop-j : goal.invariant-loop-j
invariant-loop-j g l = (length l.y ≡ l.h * l.w) × Columns l.h l.w (worked (g.P.Product.formula l.p)) l.initial.y l.y l.j

abbrev pub decreases-loop-j : goal.decreases-loop-j
decreases-loop-j g l = l.w - l.j
