-- `symbolic::cores::counts` meets its contract: the counts are the lengths of the columns made so far, the sum the numbers of the rows done. Assumes nothing.
use Rattle.std.specs.Prelude.{ℕ, ◌+◌, ◌-◌, List, length, get_or, take, drop, replicate}
use mathlib.Core.Path.{refl, ap, ◌∙◌}
use native.Mathlib.Omega.{arith}
use lib.ListN.{length-set}
use Rattle.graph.specs.Sets.{sum}
use Rattle.buckets.proofs.Lists.{part_slice}
use Rattle.symbolic.proofs.Numbers.{times-le}
use Rattle.symbolic.proofs.Walks.{tree-rule}
use Rattle.symbolic.proofs.Passes.{scan-climbed, count_begins, count_asks, count_turns, count_ends, number_begins, number_turns, number_ends}
use Rattle.symbolic.proofs.cores.counts.Goals as goal

pub loop-j-init : goal.loop-j-init
loop-j-init c =
    let one = c.fill in
    let two = c.fill-2 in
    let n = length c.args.t.now.parent.now in (
      count_begins c.args.t.now.starts.now c.args.t.now.rows.now n c.args.t.now.parent.now one.new.self two.new.self c.requires.tree.0
          (one.ensures.after (λ y h. h) ∙ ap (λ (m : ℕ). replicate m 0) c.requires.stamp_len.0) (two.ensures.after (λ y h. h) ∙ ap (λ (m : ℕ). replicate m 0) c.requires.stamp_len.1),
      refl,
      number_begins c.args.t.now.starts.now c.args.t.now.rows.now n c.args.sizes.now,
    )

pub count_climbs-added-requires : goal.count_climbs-added-requires
count_climbs-added-requires c =
    let v = c.loop-j in
    let g = v.invariant.0 in
    let taken = c.loop-j-test.true in
    let starts = c.args.t.now.starts.now in
    let rows = c.args.t.now.rows.now in
    let parent = c.args.t.now.parent.now in
    let part = take (get_or starts (v.j + 1) 0 - get_or starts v.j 0) (drop (get_or starts v.j 0) rows) in
    let lent = part_slice rows (get_or starts v.j 0) (get_or starts (v.j + 1) 0) in record { parents = (tree-rule starts rows (length parent) g.tree.pattern.few g.tree.ascends parent g.tree.liu, taken, g.tree.pattern.few, c.requires.tree.1); stamp_len = (length-set v.stamp v.j (v.j + 1) ∙ g.sizes.0, g.sizes.1); roomy = count_asks starts rows (length parent) parent v.stamp v.count v.j g taken part lent }

pub overflow_mul-numbers : goal.overflow_mul-numbers
overflow_mul-numbers c = omega (arith, times-le (get_or c.args.sizes.now c.loop-j.j 0) c.count_climbs-added.result (c.requires.tree.1.small c.loop-j.j) c.count_climbs-added.ensures.value.1)

pub overflow_add-numbers : goal.overflow_add-numbers
overflow_add-numbers c = omega (arith, times-le (get_or c.args.sizes.now c.loop-j.j 0) c.count_climbs-added.result (c.requires.tree.1.small c.loop-j.j) c.count_climbs-added.ensures.value.1, c.loop-j.invariant.2.small, c.requires.tree.0.pattern.few, c.loop-j-test.true)

pub loop-j-preserved : goal.loop-j-preserved
loop-j-preserved c =
    let v = c.loop-j in
    let call = c.count_climbs-added in
    let g = v.invariant.0 in
    let taken = c.loop-j-test.true in
    let starts = c.args.t.now.starts.now in
    let rows = c.args.t.now.rows.now in
    let parent = c.args.t.now.parent.now in
    let part = take (get_or starts (v.j + 1) 0 - get_or starts v.j 0) (drop (get_or starts v.j 0) rows) in
    let lent = part_slice rows (get_or starts v.j 0) (get_or starts (v.j + 1) 0) in
    let sizes = c.args.sizes.now in (
      count_turns starts rows (length parent) parent v.stamp v.count v.j g taken part lent
          call.new.stamp call.new.count (call.auto.stamp ∙ length-set v.stamp v.j (v.j + 1) ∙ g.sizes.0) (call.auto.count ∙ g.sizes.1) call.ensures.stamp_after call.ensures.count_after,
      refl,
      number_turns starts rows (length parent) sizes v.numbers v.j v.invariant.2 (get_or sizes v.j 0) call.result refl
          (call.ensures.value.0 ∙ ap (λ (l : List ℕ). sum l (λ k. get_or sizes k 0)) (scan-climbed starts rows (length parent) parent g.tree v.j taken v.stamp g.sizes.0 g.below part lent)) (times-le (get_or c.args.sizes.now c.loop-j.j 0) c.count_climbs-added.result (c.requires.tree.1.small c.loop-j.j) c.count_climbs-added.ensures.value.1),
    )

pub returns : goal.returns
returns c =
    let v = c.loop-j in
    let n = length c.args.t.now.parent.now in record { value = number_ends c.args.t.now.starts.now c.args.t.now.rows.now n c.args.sizes.now v.numbers v.j v.invariant.2 v.invariant.0.inside c.loop-j-test.false; count_after = count_ends c.args.t.now.starts.now c.args.t.now.rows.now n c.args.t.now.parent.now v.stamp v.count v.j v.invariant.0 c.loop-j-test.false }
