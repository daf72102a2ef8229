-- `load_column::cores::load_transposed` meets its contract. Assumes nothing.
use Rattle.std.specs.Prelude.{◌≡◌, ℕ, ◌*◌}
use mathlib.Core.Path.{sym, ap, ◌∙◌}
use native.Mathlib.Nat.{suc-mul}
use native.Mathlib.Omega.{arith}
use native.Mathlib.Numerals.{add-one}
use borrow.Author.Rules.{rules}
use Rattle.scalars.specs.Bodies.{transposed}
use Rattle.scalars.proofs.Filling.{filled_none, filled_all}
use Rattle.load_column.proofs.BodyLaws.{added, turned-length, turned-inside, turned_turn}
use Rattle.load_column.proofs.cores.load_transposed.Goals as goal

pub loop-r-init : goal.loop-r-init
loop-r-init c =
    (search rules, filled_none (added (transposed c.args.h c.args.w c.args.body.now)) c.args.y.now (c.requires.1 ∙ sym (turned-length c.args.h c.args.w c.args.body.now)), search rules)

pub loop-c-init : goal.loop-c-init
loop-c-init c = (search rules, c.loop-r.invariant.1, c.loop-r.invariant.2 ∙ omega arith)

pub bounds-y-place : goal.bounds-y-place
bounds-y-place c =
    let v = c.loop-r in
    let t = c.loop-c in
    omega (arith, turned-inside c.args.h c.args.w c.args.body.now t.y t.place v.r t.c t.invariant.1 t.invariant.2 c.loop-r-test.true c.loop-c-test.true, t.invariant.1.long, turned-length c.args.h c.args.w c.args.body.now)

pub offset_bounds-y-place : goal.offset_bounds-y-place
offset_bounds-y-place c =
    omega (arith, bounds-y-place c, turned-length c.args.h c.args.w c.args.body.now, c.requires.1)

pub overflow_add-place : goal.overflow_add-place
overflow_add-place c =
    omega (arith, bounds-y-place c, turned-length c.args.h c.args.w c.args.body.now, c.requires.1)

pub loop-c-preserved : goal.loop-c-preserved
loop-c-preserved c =
    let v = c.loop-r in
    let t = c.loop-c in
    rw c.entry.ensures (
      search rules,
      turned_turn c.args.h c.args.w c.args.body.now t.y t.place v.r t.c t.invariant.1 t.invariant.2 c.loop-r-test.true c.loop-c-test.true,
      omega (arith, t.invariant.2),
    )

pub loop-r-preserved : goal.loop-r-preserved
loop-r-preserved c =
    let v = c.loop-r in
    let t = c.loop-c in
    (search rules, t.invariant.1, rw (add-one, suc-mul) (omega (arith, t.invariant.2)))

pub shape_of-y : goal.shape_of-y
shape_of-y c =
    c.loop-r.invariant.1.long ∙ turned-length c.args.h c.args.w c.args.body.now ∙ sym c.requires.1

pub returns : goal.returns
returns c =
    let v = c.loop-r in
    let all : v.r ≡ c.args.h = omega arith in
    filled_all (added (transposed c.args.h c.args.w c.args.body.now)) v.y v.place v.invariant.1
    (omega (arith, turned-length c.args.h c.args.w c.args.body.now, v.invariant.2 ∙ ap (λ (m : ℕ). m * c.args.w) all))
