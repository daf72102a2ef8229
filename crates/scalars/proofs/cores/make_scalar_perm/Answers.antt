-- `scalars::cores::make_scalar_perm` meets its contract. Assumes nothing.
use Rattle.std.specs.Prelude.{◌≡◌, ℕ, ◌<◌, length, get_or}
use mathlib.Core.Path.{sym, ap, subst, ◌∙◌}
use native.Mathlib.Omega.{arith}
use Rattle.buckets.specs.Buckets.{before}
use Rattle.order.specs.Order.{sizes_of}
use Rattle.scalars.specs.Scalars.{scalar_perm}
use Rattle.scalars.proofs.Filling.{filled_none, filled_all}
use Rattle.buckets.proofs.Laws.{nothing-before}
use Rattle.scalars.proofs.ScalarLaws.{perm-size, scalar-permutes, old_below, old-starts-long, start_small, place_inside, scalar-turn, block-turn}
use Rattle.scalars.proofs.cores.make_scalar_perm.Goals as goal

pub loop-old-init : goal.loop-old-init
loop-old-init c =
    (filled_none (scalar_perm c.args.dims.now c.args.order.now) c.args.out.now (c.requires.old_starts_value.1 ∙ sym (scalar-permutes c.args.dims.now c.args.order.now c.requires.permutes.0).entries), sym (nothing-before (sizes_of c.args.dims.now c.args.order.now)))

pub bounds-old_starts-old : goal.bounds-old_starts-old
bounds-old_starts-old c =
    let v = c.loop-old in
    old-starts-long c.args.dims.now c.args.order.now c.args.old_starts.now c.requires.permutes.0 c.requires.old_starts_value.0 v.old-index c.loop-old-test.true

pub bounds-dims-old : goal.bounds-dims-old
bounds-dims-old c =
    let v = c.loop-old in
    old_below c.args.dims.now c.args.order.now c.args.old_starts.now c.requires.permutes.0 c.requires.old_starts_value.0 v.old-index c.loop-old-test.true

pub overflow_add-out : goal.overflow_add-out
overflow_add-out c =
    let v = c.loop-old in
    let small = start_small c.args.dims.now c.args.order.now c.args.old_starts.now c.requires.permutes.0 c.requires.old_starts_value.0 v.old-index c.loop-old-test.true c.requires.permutes.1 c.requires.permutes.2 in
    let size = c.requires.permutes.2.small (get_or c.args.order.now v.old-index 0) in
    omega (arith, small, size)

pub bounds-out-place : goal.bounds-out-place
bounds-out-place c =
    let w = c.loop-s in
    let v = c.loop-old in
    subst (λ (m : ℕ). w.place < m) (sym w.invariant.0.long) (place_inside c.args.dims.now c.args.order.now c.args.old_starts.now c.requires.permutes.0 c.requires.old_starts_value.0 v.old-index c.loop-old-test.true w.out w.place w.s w.invariant.0 w.invariant.1 c.loop-s-test.true)

pub loop-s-preserved : goal.loop-s-preserved
loop-s-preserved c =
    let w = c.loop-s in
    let v = c.loop-old in (
      scalar-turn c.args.dims.now c.args.order.now c.args.old_starts.now c.requires.permutes.0 c.requires.old_starts_value.0 v.old-index c.loop-old-test.true w.out w.place w.s w.invariant.0 w.invariant.1 c.loop-s-test.true,
      omega (arith, w.invariant.1),
    )

pub loop-old-preserved : goal.loop-old-preserved
loop-old-preserved c =
    let w = c.loop-s in
    let v = c.loop-old in (
      w.invariant.0,
      block-turn c.args.dims.now c.args.order.now c.args.old_starts.now c.requires.permutes.0 c.requires.old_starts_value.0 v.old-index c.loop-old-test.true w.out w.place w.s w.invariant.0 w.invariant.1 (omega arith),
    )

pub returns : goal.returns
returns c =
    let v = c.loop-old in
    let dims = c.args.dims.now in
    let order = c.args.order.now in
    let all : v.old-index ≡ length order = omega arith in
    filled_all (scalar_perm dims order) v.out v.place v.invariant.0 (omega (arith, perm-size dims order, v.invariant.1 ∙ ap (before (sizes_of dims order)) all))
