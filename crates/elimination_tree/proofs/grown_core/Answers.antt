-- `elimination_tree::grown_core` meets its contract: a short buffer refuses; else the tree is in the first n places. Assumes nothing.
use Rattle.std.specs.Prelude.{ℕ, length, drop, replicate, ◌≡◌}
use mathlib.Core.Path.{refl, sym, ap, subst, ◌∙◌}
use lib.Seq.{length-take-le, take_at}
use Rattle.elimination_tree.specs.Tree.{Ascends, linked_up, parents_of}
use Rattle.elimination_tree.proofs.NewLaws.{as-ascends, grown}
use Rattle.elimination_tree.proofs.grown_core.Goals as goal

pub new_core-requires-clause-ascends : goal.new_core-requires-clause-ascends
new_core-requires-clause-ascends c =
    let n = c.args.n in
    subst (λ (m : ℕ). Ascends m c.args.starts.now c.args.rows.now) (sym (length-take-le n c.args.parents.now c.in_ok-first_short.ensures.met.0)) (as-ascends n c.args.starts.now c.args.rows.now c.requires)

pub returns : goal.returns
returns c =
    let n = c.args.n in
    let ancestors = c.args.ancestors.now in
    let core = c.new_core in
    let zeros = c.fill in
    let met = c.in_ok-first_short.ensures.met in
    let size : length core.new.ancestor ≡ n = core.auto.ancestor ∙ length-take-le n ancestors met.1.0 in
    grown _ n c.args.starts.now c.args.rows.now c.args.parents.now ancestors core.new.parent core.new.ancestor zeros.new.self _ c.requires.blocks refl (sym c.in_ok-first_short.ensures.says) size
    (core.ensures ∙ ap (parents_of (linked_up c.args.starts.now c.args.rows.now)) (length-take-le n c.args.parents.now met.0))
    (zeros.ensures.after (λ y h. h) ∙ ap (λ (m : ℕ). replicate m 0) (ap length (take_at core.new.ancestor (drop n ancestors) n size) ∙ size))
