-- `marks::cores::mark_scalars` meets its contract: the invariants: the first scalars by new number are marked and counted (`UpTo`). Assumes nothing.
use mir.Val.{bool_byte}
use mathlib.Core.Path.{sym, ap, ◌∙◌}
use native.Mathlib.Omega.{arith}
use borrow.Author.Rules.{rules}
use Rattle.order.specs.Order.{sizes_of}
use Rattle.buckets.proofs.Laws.{nothing-before}
use Rattle.marks.specs.Mark.{byte_of, silent_one}
use Rattle.marks.proofs.MarkLaws.{counted-one, up_none, old_below, old-known, scalar_fits, up_more, block_next, up_all, all_places, one-most}
use Rattle.marks.proofs.cores.mark_scalars.Goals as goal

pub loop-block-init : goal.loop-block-init
loop-block-init c =
    let x = c.args in
    (search rules, sym (nothing-before (sizes_of x.dims.now x.order.now)), up_none x.dims.now x.order.now c.requires.dims_len_bound.2 x.tol x.d.now x.marks.now c.requires.old_starts_value.2)

pub loop-s-init : goal.loop-s-init
loop-s-init c = let v = c.loop-block in (v.invariant.1 ∙ omega arith, v.invariant.2)

pub loop-s-preserved : goal.loop-s-preserved
loop-s-preserved c =
    let x = c.args in
    let v = c.loop-block in
    let w = c.loop-s in
    let m = c.mark_of-m in (
      omega (arith, w.invariant.0),
      up_more x.dims.now x.order.now c.requires.dims_len_bound.2 x.tol x.d.now x.old_starts.now c.requires.old_starts_value.0 v.block-index c.loop-block-test.true w.place w.s w.invariant.0 c.loop-s-test.true
          w.marks w.silent _ _ (c.from.ensures ∙ ap byte_of m.ensures) (counted-one m.result (c.from-silent.ensures ∙ ap bool_byte c.eq.ensures) ∙ ap silent_one m.ensures) w.invariant.1,
    )

pub loop-block-preserved : goal.loop-block-preserved
loop-block-preserved c =
    let x = c.args in
    let v = c.loop-block in
    let w = c.loop-s in (
      omega arith,
      block_next x.dims.now x.order.now c.requires.dims_len_bound.2 x.tol x.d.now x.old_starts.now c.requires.old_starts_value.0 v.block-index c.loop-block-test.true w.place w.s w.invariant.0 (omega arith),
      w.invariant.1,
    )

pub returns : goal.returns
returns c =
    let x = c.args in
    let v = c.loop-block in
    up_all x.dims.now x.order.now c.requires.dims_len_bound.2 x.tol x.d.now v.marks v.silent v.place
    (all_places x.dims.now x.order.now c.requires.dims_len_bound.2 x.tol x.d.now v.place v.block-index v.invariant.1 (omega arith)) c.requires.old_starts_value.1 v.invariant.2

pub bounds-old_starts-old : goal.bounds-old_starts-old
bounds-old_starts-old c =
    let x = c.args in
    old-known x.dims.now x.order.now c.requires.dims_len_bound.2 x.tol x.d.now x.old_starts.now c.requires.old_starts_value.0 c.loop-block.block-index c.loop-block-test.true

pub bounds-dims-old : goal.bounds-dims-old
bounds-dims-old c =
    let x = c.args in
    old_below x.dims.now x.order.now c.requires.dims_len_bound.2 x.tol x.d.now x.old_starts.now c.requires.old_starts_value.0 c.loop-block.block-index c.loop-block-test.true

pub offset_bounds-d-place : goal.offset_bounds-d-place
offset_bounds-d-place c =
    let x = c.args in
    let r = c.requires.dims_len_bound in
    let w = c.loop-s in
    let f = scalar_fits x.dims.now x.order.now r.2 x.tol x.d.now x.old_starts.now c.requires.old_starts_value.0 c.loop-block.block-index c.loop-block-test.true w.place w.s w.invariant.0 c.loop-s-test.true r.1 r.0 in
    omega (arith, f)

pub bounds-d-place : goal.bounds-d-place
bounds-d-place c =
    let x = c.args in
    let r = c.requires.dims_len_bound in
    let w = c.loop-s in
    let f = scalar_fits x.dims.now x.order.now r.2 x.tol x.d.now x.old_starts.now c.requires.old_starts_value.0 c.loop-block.block-index c.loop-block-test.true w.place w.s w.invariant.0 c.loop-s-test.true r.1 r.0 in
    omega (arith, f, c.requires.old_starts_value.1)

pub bounds-marks-start : goal.bounds-marks-start
bounds-marks-start c =
    let x = c.args in
    let r = c.requires.dims_len_bound in
    let w = c.loop-s in
    let f = scalar_fits x.dims.now x.order.now r.2 x.tol x.d.now x.old_starts.now c.requires.old_starts_value.0 c.loop-block.block-index c.loop-block-test.true w.place w.s w.invariant.0 c.loop-s-test.true r.1 r.0 in
    omega (arith, f, w.invariant.1.as_long)

pub overflow_add-silent : goal.overflow_add-silent
overflow_add-silent c =
    let x = c.args in
    let r = c.requires.dims_len_bound in
    let w = c.loop-s in
    let f = scalar_fits x.dims.now x.order.now r.2 x.tol x.d.now x.old_starts.now c.requires.old_starts_value.0 c.loop-block.block-index c.loop-block-test.true w.place w.s w.invariant.0 c.loop-s-test.true r.1 r.0 in
    omega (arith, f, w.invariant.1.few, counted-one c.mark_of-m.result (c.from-silent.ensures ∙ ap bool_byte c.eq.ensures), one-most c.mark_of-m.result)

pub overflow_add-place : goal.overflow_add-place
overflow_add-place c =
    let x = c.args in
    let r = c.requires.dims_len_bound in
    let w = c.loop-s in
    let f = scalar_fits x.dims.now x.order.now r.2 x.tol x.d.now x.old_starts.now c.requires.old_starts_value.0 c.loop-block.block-index c.loop-block-test.true w.place w.s w.invariant.0 c.loop-s-test.true r.1 r.0 in
    omega (arith, f)
