-- `tiled_product::cores::strips` meets its contract. Assumes nothing.
use borrow.Author.Rules.{rules}
use Rattle.tiled_product.specs.Tiled.{worked}
use Rattle.tiled_product.proofs.TileLaws.{columns_more, columns_all}
use Rattle.tiled_product.proofs.cores.strips.Goals as goal

pub loop-j-preserved : goal.loop-j-preserved
loop-j-preserved g c =
    let x = c.args in
    let l = c.loop-j in
    (search rules, columns_more x.h x.w (worked (g.P.Product.formula x.p.now)) x.y.now l.y _ l.j _ _ _ l.invariant.1 (search rules) c.after.ensures c.after-in-loop-j.ensures c.onward-j.ensures c.strip.ensures)

pub returns : goal.returns
returns g c =
    let x = c.args in
    let l = c.loop-j in
    columns_all x.h x.w (worked (g.P.Product.formula x.p.now)) x.y.now l.y l.j (search rules) (search rules) l.invariant.1
