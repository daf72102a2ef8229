-- `order::cores::keep` meets its contract. Assumes nothing.
use Rattle.std.specs.Prelude.{get_or}
use mathlib.Core.Path.{sym, ◌∙◌}
use Rattle.buckets.proofs.Lists.{elem_at}
use Rattle.order.proofs.Laws.{group-test, room, takes, passes, ends}
use Rattle.order.proofs.cores.keep.Goals as goal
use Rattle.order.proofs.cores.keep.Goals.{then-is_late-flagged, else-is_late-flagged}

pub bounds-late-block : goal.bounds-late-block
bounds-late-block c =
    let v = c.loop-block in
    c.requires.by_index (get_or c.args.perm.now v.block-index 0) (elem_at c.args.perm.now v.block-index c.loop-block-test.true)

pub bounds-order-place : goal.bounds-order-place
bounds-order-place c =
    let v = c.loop-block in
    room c.args.flagged c.args.late.now c.args.perm.now c.args.order.now c.args.at v.order v.place v.block-index v.invariant c.loop-block-test.true
    (sym (group-test c.args.flagged c.args.late.now (get_or c.args.perm.now v.block-index 0)) ∙ c.if-is_late-flagged.true) c.requires.perm_in_bounds

pub loop-block-preserved : goal.loop-block-preserved
loop-block-preserved c =
    let v = c.loop-block in
    let flagged = c.args.flagged in
    let late = c.args.late.now in
    let perm = c.args.perm.now in
    let inside = c.loop-block-test.true in
    let test = sym (group-test flagged late (get_or perm v.block-index 0)) in
    elim c.if-is_late-flagged.branch [
      | then-is_late-flagged w ↦ rw (w.order-is, w.place-is) (takes flagged late perm c.args.order.now c.args.at v.order v.place v.block-index v.invariant inside (test ∙ w.if-is_late-flagged.true))
      | else-is_late-flagged w ↦ rw (w.order-is, w.place-is) (passes flagged late perm c.args.order.now c.args.at v.order v.place v.block-index v.invariant inside (test ∙ w.if-is_late-flagged.false))
    ]

pub returns : goal.returns
returns c =
    let v = c.loop-block in
    let both = ends c.args.flagged c.args.late.now c.args.perm.now c.args.order.now c.args.at v.order v.place v.block-index v.invariant c.loop-block-test.false in
    record { value = both.0; order_after = both.1 }
