-- `right_side::cores::unpermute` meets its contract: the invariant: the old scalars of the first new ones are written. Assumes nothing.
use Rattle.std.specs.Prelude.{length, get_or}
use mathlib.Core.Path.{◌∙◌}
use native.Mathlib.Omega.{arith}
use lib.Ieee.{nan}
use lib.ListN.{length-set}
use borrow.Author.Rules.{rules}
use Rattle.order.proofs.Laws.{below_at}
use Rattle.tables.specs.Verdict.{at}
use Rattle.solution.proofs.EdgeLaws.{scattered-turn, unpermuted-all}
use Rattle.right_side.proofs.cores.unpermute.Goals as goal

pub loop-new-preserved : goal.loop-new-preserved
loop-new-preserved c =
    let l = c.loop-new in (
      omega arith,
      length-set l.x (at c.args.perm.now l.new) _ ∙ l.invariant.1,
      scattered-turn c.args.perm.now c.requires.0 nan l.x (λ i. get_or c.args.y.now i nan) l.new l.invariant.1 (omega arith) l.invariant.2,
    )

pub returns : goal.returns
returns c =
    let l = c.loop-new in
    unpermuted-all c.args.perm.now c.requires.0 l.x c.args.y.now l.invariant.1 (λ i h. l.invariant.2 i (omega arith))

pub loop-new-init : goal.loop-new-init
loop-new-init c = (search rules, c.requires.2, λ i h. absurd (omega arith))

pub bounds-x-old : goal.bounds-x-old
bounds-x-old c = omega (arith, c.loop-new.invariant.1, below_at (length c.args.perm.now) c.args.perm.now c.requires.0 c.loop-new.new (omega arith))
