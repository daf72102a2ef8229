-- `symbolic::cores::fill` meets its contract: the table holds the columns made so far. Assumes nothing.
use Rattle.std.specs.Prelude.{ℕ, ◌+◌, ◌-◌, length, get_or, take, drop, replicate}
use mathlib.Core.Path.{refl, ap, ◌∙◌}
use native.Mathlib.Omega.{arith}
use lib.ListN.{length-set}
use Rattle.graph.proofs.SymbolicLaws.{columns_length}
use Rattle.buckets.proofs.Lists.{part_slice}
use Rattle.elimination_tree.specs.Tree.{linked_up}
use Rattle.symbolic.proofs.Walks.{tree-rule}
use Rattle.symbolic.proofs.Passes.{fill_begins, fill_asks, fill_turns, fill_ends}
use Rattle.symbolic.proofs.cores.fill.Goals as goal

pub copy-requires : goal.copy-requires
copy-requires c =
    let n = length c.args.t.now.parent.now in
    omega (arith, columns_length (linked_up c.args.t.now.starts.now c.args.t.now.rows.now) n n, c.requires.laid.count, c.requires.stamp_len.1)

pub loop-j-init : goal.loop-j-init
loop-j-init c =
    let one = c.fill in
    let two = c.copy in
    let n = length c.args.t.now.parent.now in (
      fill_begins c.args.t.now.starts.now c.args.t.now.rows.now n c.args.t.now.parent.now c.args.l_starts.now one.new.self two.new.to c.args.l_rows.now c.requires.tree
          (one.ensures.after (λ y h. h) ∙ ap (λ (m : ℕ). replicate m 0) c.requires.stamp_len.0) c.requires.laid (two.ensures ∙ ap (λ (m : ℕ). take m c.args.l_starts.now) c.requires.stamp_len.1),
      refl,
      refl,
    )

pub store_climbs-requires : goal.store_climbs-requires
store_climbs-requires c =
    let v = c.loop-j in
    let g = v.invariant.0 in
    let taken = c.loop-j-test.true in
    let starts = c.args.t.now.starts.now in
    let rows = c.args.t.now.rows.now in
    let parent = c.args.t.now.parent.now in
    let part = take (get_or starts (v.j + 1) 0 - get_or starts v.j 0) (drop (get_or starts v.j 0) rows) in
    let lent = part_slice rows (get_or starts v.j 0) (get_or starts (v.j + 1) 0) in record { parents = (tree-rule starts rows (length parent) g.tree.pattern.few g.tree.ascends parent g.tree.liu, taken, g.small); stamp_len = (length-set v.stamp v.j (v.j + 1) ∙ g.stamps, g.held.counts); roomy = fill_asks starts rows (length parent) parent c.args.l_starts.now v.stamp v.next v.l_rows v.j g taken part lent }

pub loop-j-preserved : goal.loop-j-preserved
loop-j-preserved c =
    let v = c.loop-j in
    let call = c.store_climbs in
    let g = v.invariant.0 in
    let taken = c.loop-j-test.true in
    let starts = c.args.t.now.starts.now in
    let rows = c.args.t.now.rows.now in
    let parent = c.args.t.now.parent.now in
    let part = take (get_or starts (v.j + 1) 0 - get_or starts v.j 0) (drop (get_or starts v.j 0) rows) in
    let lent = part_slice rows (get_or starts v.j 0) (get_or starts (v.j + 1) 0) in (
      fill_turns starts rows (length parent) parent c.args.l_starts.now v.stamp v.next v.l_rows v.j g taken part lent
          call.new.stamp call.new.next call.new.table (call.auto.stamp ∙ length-set v.stamp v.j (v.j + 1) ∙ g.stamps) call.auto.table call.ensures.stamp_after call.ensures.next_after call.ensures.table_after,
      refl,
      call.auto.table ∙ v.invariant.2,
    )

pub returns : goal.returns
returns c =
    let v = c.loop-j in
    fill_ends c.args.t.now.starts.now c.args.t.now.rows.now (length c.args.t.now.parent.now) c.args.t.now.parent.now c.args.l_starts.now v.stamp v.next v.l_rows v.j v.invariant.0 c.loop-j-test.false
