-- `fill_rows::cores::link` meets its contract. Assumes nothing.
use Rattle.std.specs.Prelude.{◌-◌}
use mathlib.Core.Path.{refl}
use native.Mathlib.Omega.{arith}
use Rattle.reach.specs.Reach.{none}
use Rattle.symbolic.proofs.Climbs.{goes_up}
use Rattle.fill_rows.proofs.Onward.{link-begins, link-turns, link-ends}
use Rattle.fill_rows.proofs.cores.link.Goals as goal

pub loop-k-init : goal.loop-k-init
loop-k-init c = link-begins c.args.parent.now c.args.l_starts.now c.args.onward.now c.requires.2

pub bounds-parent-k : goal.bounds-parent-k
bounds-parent-k c = omega (arith, c.loop-k.invariant.inside, c.loop-k-test.true)

pub bounds-onward-k : goal.bounds-onward-k
bounds-onward-k c = omega (arith, c.loop-k.invariant.inside, c.loop-k.invariant.places, c.loop-k-test.true)

pub loop-k-preserved-then-up : goal.loop-k-preserved-then-up
loop-k-preserved-then-up c =
    let v = c.loop-k in
    link-turns c.args.parent.now c.args.l_starts.now v.onward c.requires.0 v.k v.invariant (v.k - 1) (omega (arith, c.loop-k-test.true)) none (λ e. refl) (λ e. absurd (e c.if-up.true))

pub top-requires : goal.top-requires
top-requires c =
    let v = c.loop-k in (
      c.requires.0,
      c.requires.1,
      (goes_up c.args.parent.now (v.k - 1) c.requires.0 (omega (arith, v.invariant.inside, c.loop-k-test.true)) c.if-up.false).1,
      v.invariant.places,
    )

pub bounds-onward-k-else-up : goal.bounds-onward-k-else-up
bounds-onward-k-else-up c = omega (arith, c.loop-k.invariant.inside, c.loop-k.invariant.places, c.loop-k-test.true)

pub loop-k-preserved : goal.loop-k-preserved
loop-k-preserved c =
    let v = c.loop-k in
    link-turns c.args.parent.now c.args.l_starts.now v.onward c.requires.0 v.k v.invariant (v.k - 1) (omega (arith, c.loop-k-test.true)) c.top.result (λ e. absurd (c.if-up.false e)) (λ e. c.top.ensures)

pub returns : goal.returns
returns c = link-ends c.args.parent.now c.args.l_starts.now c.loop-k.onward c.loop-k.k c.loop-k.invariant c.loop-k-test.false
