-- `tiled_product::cores::strip` meets its contract. Assumes nothing.
use borrow.Author.Rules.{rules}
use Rattle.tiled_product.specs.Tiled.{worked}
use Rattle.tiled_product.proofs.TileLaws.{strip-after}
use Rattle.tiled_product.proofs.cores.strip.Goals as goal

pub loop-i-preserved-then-tall-eq4 : goal.loop-i-preserved-then-tall-eq4
loop-i-preserved-then-tall-eq4 g c =
    let x = c.args in
    let l = c.loop-i in
    (search rules, search rules, strip-after x.h x.w (worked (g.P.Product.formula x.p.now)) x.j.c0 x.j.c1 x.j.c2 (search rules) (search rules) (search rules) x.y.now l.y _ (search rules) l.i 4 (search rules) l.invariant.2 c.tile.ensures)

pub loop-i-preserved-then-tall-eq3 : goal.loop-i-preserved-then-tall-eq3
loop-i-preserved-then-tall-eq3 g c =
    let x = c.args in
    let l = c.loop-i in
    (search rules, search rules, strip-after x.h x.w (worked (g.P.Product.formula x.p.now)) x.j.c0 x.j.c1 x.j.c2 (search rules) (search rules) (search rules) x.y.now l.y _ (search rules) l.i 3 (search rules) l.invariant.2 c.tile-then-tall-eq3.ensures)

pub loop-i-preserved : goal.loop-i-preserved
loop-i-preserved g c =
    let x = c.args in
    let l = c.loop-i in
    (search rules, search rules, strip-after x.h x.w (worked (g.P.Product.formula x.p.now)) x.j.c0 x.j.c1 x.j.c2 (search rules) (search rules) (search rules) x.y.now l.y _ (search rules) l.i 1 (search rules) l.invariant.2 c.tile-else-tall-eq3.ensures)
