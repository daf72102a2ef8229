-- `scalars::cores::transpose` meets its contract. Assumes nothing.
use mathlib.Core.Path.{sym, ◌∙◌}
use native.Mathlib.Omega.{arith}
use borrow.Author.Rules.{rules}
use Rattle.scalars.specs.Bodies.{transposed}
use Rattle.scalars.proofs.Filling.{filled_none}
use Rattle.scalars.proofs.BodyLaws.{transposed-length, turned_turn}
use Rattle.scalars.proofs.cores.transpose.Goals as goal

pub loop-r-init : goal.loop-r-init
loop-r-init c =
    (search rules, filled_none (transposed c.args.h c.args.w c.args.body.now) c.args.out.now (c.requires.1 ∙ sym (transposed-length c.args.h c.args.w c.args.body.now)), search rules)

pub loop-c-preserved : goal.loop-c-preserved
loop-c-preserved c =
    let v = c.loop-r in
    let t = c.loop-c in
    rw c.entry.ensures (
      search rules,
      turned_turn c.args.h c.args.w c.args.body.now t.out t.place v.r t.c t.invariant.1 t.invariant.2 c.loop-r-test.true c.loop-c-test.true,
      omega (arith, t.invariant.2),
    )
