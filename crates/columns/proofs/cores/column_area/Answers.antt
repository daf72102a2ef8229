-- `columns::cores::column_area` meets its contract: a sum, one turn a place; no term is above 256. Assumes nothing.
use native.Mathlib.Omega.{arith}
use Rattle.tables.proofs.AreaLaws.{part-le}
use Rattle.tables.proofs.SearchLaws.{summed, added, added-le, all-added}
use Rattle.columns.proofs.cores.column_area.Goals as goal

pub loop-i-init : goal.loop-i-init
loop-i-init c = summed c.requires.3

pub block_area-s-requires : goal.block_area-s-requires
block_area-s-requires c =
    let p = c.requires in
    (p.0, p.2, omega arith, p.1 c.loop-i.i c.loop-i-test.true)

pub overflow_add-s : goal.overflow_add-s
overflow_add-s c =
    let p = c.requires in
    omega (arith, added-le c.loop-i.invariant c.loop-i-test.true, part-le c.args.dims.now c.args.rows.now p.0 c.args.d c.args.lo c.args.hi p.2 p.3, p.5)

pub loop-i-preserved : goal.loop-i-preserved
loop-i-preserved c = rw c.block_area-s.ensures (added c.loop-i.invariant c.loop-i-test.true)

pub returns : goal.returns
returns c = all-added c.loop-i.invariant c.loop-i-test.false
