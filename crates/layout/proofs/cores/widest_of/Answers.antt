-- `layout::cores::widest_of` meets its contract. Assumes nothing.
use borrow.Author.Rules.{rules}
use Rattle.layout.proofs.DiagonalLaws.{widest-turn, widest-end}
use Rattle.layout.proofs.cores.widest_of.Goals as goal

pub loop-size-preserved : goal.loop-size-preserved
loop-size-preserved c =
    let v = c.loop-size in
    widest-turn c.args.sizes.now v.size-index v.most v.invariant c.max-most.result c.loop-size-test.true (search rules)

pub returns : goal.returns
returns c =
    let v = c.loop-size in
    widest-end c.args.sizes.now v.size-index v.most v.invariant c.loop-size-test.false
