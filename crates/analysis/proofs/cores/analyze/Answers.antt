-- `analysis::cores::analyze` meets its contract: the upper pattern, then the counts over it, said of the night's links. Assumes nothing.
use Rattle.std.specs.Prelude.{◌≡◌, ℕ, ◌≤◌, List, length, take, drop}
use mathlib.Core.Path.{sym, subst, ◌∙◌}
use native.Mathlib.Omega.{arith}
use borrow.Author.Rules.{rules}
use lib.Seq.{length-take-le, take_at}
use Rattle.graph.specs.Links.{rows_in, linked_of}
use Rattle.graph.proofs.Whole.{linked-symm}
use Rattle.graph.specs.Order.{moved}
use Rattle.graph.proofs.OrderLaws.{moved-permutes}
use Rattle.elimination_tree.specs.Tree.{Pattern, Ascends, linked_up}
use Rattle.order.specs.Order.{sizes_of}
use Rattle.symbolic.specs.Columns.{Sized}
use Rattle.analysis.specs.Plan.{Analyzed}
use Rattle.analysis.proofs.Laws.{sized}
use Rattle.analysis.proofs.Same.{pattern-of, ascends-of, said}
use Rattle.analysis.proofs.cores.analyze.Goals as goal

pub count_l-counts-requires-clause-pattern : goal.count_l-counts-requires-clause-pattern
count_l-counts-requires-clause-pattern c =
    let a = c.args.a.now in
    let n = length a.dims.now in
    let call = c.permute-entries in
    let w = call.new.w in
    let upper = take call.result w.upper.now in
    let links = linked_of a.starts.now a.rows.now a.perm.now a.late.now in
    let long : n ≤ length w.heads.now = omega (arith, call.ensures.same.heads.1, c.requires.room.heads) in
    let e : length (take n w.heads.now) ≡ n = length-take-le n w.heads.now long in
    let sound = c.requires.plan_sound in
    let u = call.ensures.upper_of.0 in
    let there = (moved-permutes a.perm.now a.late.now n sound.permutes).entries in rw c.split_at_mut-rows.ensures.front (
      subst (λ (m : ℕ). Pattern m w.into.now upper) (sym e) (pattern-of n links w.into.now upper sound.blocks u),
      subst (λ (m : ℕ). Ascends m w.into.now upper) (sym e) (ascends-of n links w.into.now upper sound.blocks u),
      subst (Sized (length (take n w.heads.now))) (sym call.ensures.sizes_after)
          (subst (λ (m : ℕ). Sized m (sizes_of a.dims.now (moved a.perm.now a.late.now))) (sym e) (sized n a.dims.now (moved a.perm.now a.late.now) sound.sizes there)),
    )

pub returns-clause-ready : goal.returns-clause-ready
returns-clause-ready c =
    let a = c.args.a.now in
    let n = length a.dims.now in
    let call = c.permute-entries in
    let w = call.new.w in
    let counts = c.count_l-counts in
    let into = w.into.now in
    let upper = take call.result w.upper.now in
    let heads = w.heads.now in
    let long : n ≤ length heads = omega (arith, call.ensures.same.heads.1, c.requires.room.heads) in
    let e : length (take n heads) ≡ n = length-take-le n heads long in
    let links = linked_of a.starts.now a.rows.now a.perm.now a.late.now in
    let symm = linked-symm (rows_in a.starts.now a.rows.now) (moved a.perm.now a.late.now) in
    let tree = counts.new.tree in
    let count = counts.new.count in
    let u = call.ensures.upper_of.0 in
    let over : Analyzed n (linked_up into upper) w.sizes.now tree count counts.result = subst (λ (m : ℕ). Analyzed m (linked_up into upper) w.sizes.now tree count counts.result) e (rw c.split_at_mut-rows.ensures.front at counts.ensures) in
    let night : Analyzed n links w.sizes.now tree count counts.result = said n links into upper c.requires.plan_sound.blocks u symm w.sizes.now tree count counts.result over in
    record {
      listed = search rules;
      inside = search rules;
      analyzed = subst (λ (l : List ℕ). Analyzed n links (sizes_of a.dims.now (moved a.perm.now a.late.now)) l count counts.result)
          (sym (take_at tree (drop n heads) n (counts.auto.tree ∙ e)))
          (subst (λ (l : List ℕ). Analyzed n links l tree count counts.result) call.ensures.sizes_after night);
    }

pub returns-clause-same : goal.returns-clause-same
returns-clause-same c =
    let same = c.permute-entries.ensures.same in
    let counts = c.count_l-counts.auto in record {
      inverse = same.inverse;
      sizes = same.sizes;
      count = (same.count.0, counts.count ∙ same.count.1);
      heads = (same.heads.0, search rules ∙ same.heads.1);
      into = same.into;
      stamps = (same.stamps.0, counts.stamps ∙ same.stamps.1);
      table = same.table;
      upper = (same.upper.0, search rules);
    }
