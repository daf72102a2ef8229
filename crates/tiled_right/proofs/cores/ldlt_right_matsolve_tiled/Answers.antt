-- `tiled_right::cores::ldlt_right_matsolve_tiled` meets its contract: the invariant: the rows above i are solved. Assumes nothing.
use borrow.Author.Rules.{rules}
use Rattle.tiled_right.proofs.Tiles.{above_none, above_more, above_all}
use Rattle.tiled_right.proofs.cores.ldlt_right_matsolve_tiled.Goals as goal

pub loop-i-init : goal.loop-i-init
loop-i-init c = let x = c.args in (search rules, search rules, above_none x.m x.n x.l.now x.d.now x.from.now (search rules) x.x.now)

pub loop-i-preserved-then-h-eq4 : goal.loop-i-preserved-then-h-eq4
loop-i-preserved-then-h-eq4 c = let x = c.args in let o = c.loop-i in (search rules, search rules, above_more x.m x.n x.l.now x.d.now x.from.now (search rules) o.i 4 o.x _ o.invariant.2 c.rows.ensures)

pub loop-i-preserved-then-h-eq3 : goal.loop-i-preserved-then-h-eq3
loop-i-preserved-then-h-eq3 c = let x = c.args in let o = c.loop-i in (search rules, search rules, above_more x.m x.n x.l.now x.d.now x.from.now (search rules) o.i 3 o.x _ o.invariant.2 c.rows-then-h-eq3.ensures)

pub loop-i-preserved : goal.loop-i-preserved
loop-i-preserved c = let x = c.args in let o = c.loop-i in (search rules, search rules, above_more x.m x.n x.l.now x.d.now x.from.now (search rules) o.i 1 o.x _ o.invariant.2 c.rows-else-h-eq3.ensures)

pub returns : goal.returns
returns c = let x = c.args in let o = c.loop-i in above_all x.m x.n x.l.now x.d.now x.from.now (search rules) o.i o.x (search rules) (search rules) o.invariant.2
