-- `elimination_tree::cores::new_core` meets its contract: the tables are Liu's after j columns. Assumes nothing.
use Rattle.std.specs.Prelude.{ℕ, ◌+◌, map, length, get_or, replicate}
use mathlib.Core.Path.{sym, ap, subst, ◌∙◌}
use Rattle.buckets.proofs.Lists.{part_slice}
use Rattle.elimination_tree.specs.Tree.{root, code, upper, Pattern, forest_by}
use Rattle.elimination_tree.proofs.Links.{parents-by}
use Rattle.elimination_tree.proofs.Turns.{grow-begins, grow-turns, grow-ends}
use Rattle.elimination_tree.proofs.cores.new_core.Goals as goal

pub loop-j-init : goal.loop-j-init
loop-j-init c =
    let one = c.fill in
    let two = c.fill-2 in
    let n = length one.new.self in
    grow-begins c.args.starts.now c.args.rows.now n one.new.self two.new.self
    (subst (λ (m : ℕ). Pattern m c.args.starts.now c.args.rows.now) (sym one.auto.self) c.requires.pattern)
    (one.ensures.after (λ y h. h) ∙ ap (λ (m : ℕ). replicate m root) (sym one.auto.self))
    (two.ensures.after (λ y h. h) ∙ ap (λ (m : ℕ). replicate m root) (c.requires.ancestor_len ∙ sym one.auto.self))

pub loop-j-preserved : goal.loop-j-preserved
loop-j-preserved c =
    let v = c.loop-j in
    let call = c.column in
    grow-turns c.args.starts.now c.args.rows.now (length c.fill.new.self) v.parent v.ancestor v.j call.new.parent call.new.ancestor v.invariant c.loop-j-test.true (call.auto.parent, call.auto.ancestor) call.ensures.climbs_2
    (rw (part_slice c.args.rows.now (get_or c.args.starts.now v.j 0) (get_or c.args.starts.now (v.j + 1) 0)) at call.ensures.ancestor_after)

pub returns : goal.returns
returns c =
    let v = c.loop-j in
    let n = length c.fill.new.self in
    grow-ends c.args.starts.now c.args.rows.now n v.parent v.ancestor v.j v.invariant c.loop-j-test.false
    ∙ ap (λ (m : ℕ). map code (forest_by (upper c.args.starts.now c.args.rows.now) m m).parent) c.fill.auto.self
    ∙ parents-by c.args.starts.now c.args.rows.now (length c.args.parent.now) c.requires.ascends
