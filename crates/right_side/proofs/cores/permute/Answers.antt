-- `right_side::cores::permute` meets its contract: the invariant: the first numbers are written. Assumes nothing.
use Rattle.std.specs.Prelude.{length}
use mathlib.Core.Path.{refl, sym, ◌∙◌}
use native.Mathlib.Omega.{arith}
use borrow.Author.Rules.{rules}
use Rattle.order.proofs.Laws.{below_at}
use Rattle.scalars.proofs.Filling.{filled_none, filled_all}
use Rattle.solution.specs.Solution.{permuted}
use Rattle.solution.proofs.EdgeLaws.{permuted-length, permuted-turn}
use Rattle.right_side.proofs.cores.permute.Goals as goal

pub loop-new-init : goal.loop-new-init
loop-new-init c =
    let x = c.args in
    (search rules, filled_none (permuted x.perm.now x.b.now) x.y.now (c.requires.2 ∙ sym (permuted-length x.perm.now x.b.now)))

pub loop-new-preserved : goal.loop-new-preserved
loop-new-preserved c =
    let x = c.args in
    let l = c.loop-new in
    (omega arith, permuted-turn x.perm.now x.b.now l.y l.new _ (omega arith) refl l.invariant.1)

pub returns : goal.returns
returns c =
    let x = c.args in
    let l = c.loop-new in
    filled_all (permuted x.perm.now x.b.now) l.y l.new l.invariant.1 (omega (arith, permuted-length x.perm.now x.b.now))

pub bounds-b-old : goal.bounds-b-old
bounds-b-old c = omega (arith, c.requires.1, below_at (length c.args.perm.now) c.args.perm.now c.requires.0 c.loop-new.new (omega arith))
