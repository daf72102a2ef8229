-- `elimination_tree::cores::climb` meets its contract. The invariant is `Walking`, and each answer names the law for its way. Assumes nothing.
use mathlib.Core.Path.{◌∙◌}
use Rattle.std.specs.Prelude.{length, ◌<◌}
use native.Mathlib.Omega.{arith}
use lib.ListN.{length-set}
use Rattle.elimination_tree.proofs.Turns.{begins, turns, further, roots, ends, climbs-set}
use Rattle.elimination_tree.proofs.cores.climb.Goals as goal

pub loop-i-init : goal.loop-i-init
loop-i-init c = begins c.args.j c.args.start c.args.parent.now c.args.ancestor.now c.requires.parent_len.3 c.requires.climbs

pub shape_of-parent-then-next : goal.shape_of-parent-then-next
shape_of-parent-then-next c = length-set c.loop-i.parent c.loop-i.i c.args.j ∙ c.loop-i.invariant.sizes.0

pub shape_of-ancestor-then-next : goal.shape_of-ancestor-then-next
shape_of-ancestor-then-next c = length-set c.loop-i.ancestor c.loop-i.i c.args.j ∙ c.loop-i.invariant.sizes.1

pub returns-then-next : goal.returns-then-next
returns-then-next c =
    let in_table : c.loop-i.i < length c.loop-i.ancestor = omega arith in record { ancestor_after = roots c.args.j c.args.start c.args.parent.now c.args.ancestor.now c.loop-i.parent c.loop-i.ancestor c.loop-i.i c.loop-i.invariant c.requires.parent_len.2 in_table c.loop-i-test.true c.if-next.true; climbs_2 = climbs-set c.args.j c.loop-i.i c.loop-i.ancestor (omega arith) c.loop-i.invariant.rule }

pub loop-i-smaller : goal.loop-i-smaller
loop-i-smaller c =
    let in_table : c.loop-i.i < length c.loop-i.ancestor = omega arith in
    let w = further c.args.j c.args.start c.args.parent.now c.args.ancestor.now c.loop-i.parent c.loop-i.ancestor c.loop-i.i c.loop-i.invariant c.requires.parent_len.2 in_table c.loop-i-test.true c.if-next.false in
    omega arith

pub loop-i-preserved : goal.loop-i-preserved
loop-i-preserved c =
    let in_table : c.loop-i.i < length c.loop-i.ancestor = omega arith in
    turns c.args.j c.args.start c.args.parent.now c.args.ancestor.now c.loop-i.parent c.loop-i.ancestor c.loop-i.i c.loop-i.invariant c.requires.parent_len.2 in_table c.loop-i-test.true c.if-next.false

pub shape_of-parent : goal.shape_of-parent
shape_of-parent c = c.loop-i.invariant.sizes.0

pub shape_of-ancestor : goal.shape_of-ancestor
shape_of-ancestor c = c.loop-i.invariant.sizes.1

pub returns : goal.returns
returns c =
    record { ancestor_after = ends c.args.j c.args.start c.args.parent.now c.args.ancestor.now c.loop-i.parent c.loop-i.ancestor c.loop-i.i c.loop-i.invariant c.loop-i-test.false; climbs_2 = c.loop-i.invariant.rule }
