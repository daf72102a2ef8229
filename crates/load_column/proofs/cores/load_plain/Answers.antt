-- `load_column::cores::load_plain` meets its contract: the first t numbers are loaded. Assumes nothing.
use Rattle.std.specs.Prelude.{get_or}
use mathlib.Core.Path.{refl, sym, ◌∙◌}
use native.Mathlib.Omega.{arith}
use lib.Ieee.{nan}
use borrow.Author.Rules.{rules}
use Rattle.scalars.proofs.Filling.{filled_none, filled_all}
use Rattle.load_column.proofs.BodyLaws.{added, added-length, added-turn}
use Rattle.load_column.proofs.cores.load_plain.Goals as goal

pub loop-t-init : goal.loop-t-init
loop-t-init c = let x = c.args in (search rules, filled_none (added x.body.now) x.y.now (c.requires ∙ sym (added-length x.body.now)))

pub loop-t-preserved : goal.loop-t-preserved
loop-t-preserved c =
    let x = c.args in
    let l = c.loop-t in
    (search rules, added-turn x.body.now l.y l.t (get_or x.body.now l.t nan) (omega arith) refl l.invariant.1)

pub shape_of-y : goal.shape_of-y
shape_of-y c = let x = c.args in c.loop-t.invariant.1.long ∙ added-length x.body.now ∙ sym c.requires

pub returns : goal.returns
returns c =
    let x = c.args in
    let l = c.loop-t in
    filled_all (added x.body.now) l.y l.t l.invariant.1 (omega (arith, added-length x.body.now))

pub offset_bounds-body-t : goal.offset_bounds-body-t
offset_bounds-body-t c = omega arith

pub bounds-body-t : goal.bounds-body-t
bounds-body-t c = omega arith

pub offset_bounds-y-t : goal.offset_bounds-y-t
offset_bounds-y-t c = omega arith

pub bounds-y-t : goal.bounds-y-t
bounds-y-t c = omega (arith, c.loop-t.invariant.1.long, added-length c.args.body.now)

pub overflow_step-t : goal.overflow_step-t
overflow_step-t c = omega arith

pub loop-t-smaller : goal.loop-t-smaller
loop-t-smaller c = omega arith
