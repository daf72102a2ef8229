-- `elimination_tree::cores::column` meets its contract: by what is left of the rows. Assumes nothing.
use Rattle.elimination_tree.proofs.Turns.{scan-climbs, scan-skips, scan-ends}
use Rattle.elimination_tree.proofs.cores.column.Goals as goal
use Rattle.elimination_tree.proofs.cores.column.Goals.{then-i-j, else-i-j}

pub loop-i-preserved : goal.loop-i-preserved
loop-i-preserved c =
    let v = c.loop-i in
    elim c.if-i-j.branch [
      | then-i-j w ↦ rw (w.parent-is, w.ancestor-is)
          (scan-climbs c.args.j c.args.rows.now c.args.parent.now c.args.ancestor.now v.parent v.ancestor v.i-index v.invariant
          c.loop-i-test.true w.climb.new.parent w.climb.new.ancestor w.if-i-j.true (w.climb.auto.parent, w.climb.auto.ancestor) w.climb.ensures.climbs_2 w.climb.ensures.ancestor_after)
      | else-i-j w ↦ rw (w.parent-is, w.ancestor-is)
          (scan-skips c.args.j c.args.rows.now c.args.parent.now c.args.ancestor.now v.parent v.ancestor v.i-index v.invariant
          c.loop-i-test.true w.if-i-j.false)
    ]

pub returns : goal.returns
returns c =
    let v = c.loop-i in
    record { ancestor_after = scan-ends c.args.j c.args.rows.now c.args.parent.now c.args.ancestor.now v.parent v.ancestor v.i-index v.invariant c.loop-i-test.false; climbs_2 = v.invariant.rule }
