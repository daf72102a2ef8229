-- `symbolic::cores::walk` meets its contract: what `reach::scan` says, in the theory's terms. Assumes nothing.
use Rattle.std.specs.Prelude.{◌+◌, ◌-◌, length, get_or, take, drop}
use mathlib.Core.Path.{◌∙◌}
use native.Mathlib.Omega.{arith}
use lib.ListN.{length-set}
use Rattle.buckets.proofs.Lists.{part_slice}
use Rattle.symbolic.proofs.Walks.{tree-rule, walk_ends}
use Rattle.symbolic.proofs.cores.walk.Goals as goal

pub slice_bounds-scan-count : goal.slice_bounds-scan-count
slice_bounds-scan-count c = c.requires.tree.0.pattern.rising c.args.j c.requires.tree.1

pub slice_bounds-scan-start : goal.slice_bounds-scan-start
slice_bounds-scan-start c = c.requires.tree.0.pattern.rising c.args.j c.requires.tree.1

pub slice_bounds-scan-end : goal.slice_bounds-scan-end
slice_bounds-scan-end c = c.requires.tree.0.pattern.inside (c.args.j + 1) (omega arith)

pub scan-requires : goal.scan-requires
scan-requires c =
    let t = c.requires.tree.0 in record { parents = (tree-rule c.args.starts.now c.args.rows.now (length c.args.parent.now) t.pattern.few t.ascends c.args.parent.now t.liu, c.requires.tree.1); stamp_len = (length-set c.args.stamp.now c.args.j (c.args.j + 1) ∙ c.requires.stamp_len.0, c.requires.stamp_len.1) }

pub shape_of-stamp : goal.shape_of-stamp
shape_of-stamp c = c.scan.auto.stamp ∙ length-set c.args.stamp.now c.args.j (c.args.j + 1)

pub returns : goal.returns
returns c =
    let t = c.requires.tree.0 in
    let starts = c.args.starts.now in
    let rows = c.args.rows.now in
    let parent = c.args.parent.now in
    let j = c.args.j in
    let call = c.scan in
    let part = take (get_or starts (j + 1) 0 - get_or starts j 0) (drop (get_or starts j 0) rows) in let both = walk_ends starts rows (length parent) t.pattern.few t.ascends parent t.liu j c.requires.tree.1 c.args.stamp.now c.requires.stamp_len.0 c.requires.stamp_len.2
    part (part_slice rows (get_or starts j 0) (get_or starts (j + 1) 0)) c.args.out.now call.new.out call.new.stamp call.result c.requires.stamp_len.1
    call.ensures.stamp_value call.ensures.out_after call.ensures.stamp_after in record { upper_bound = both.0; below = both.1 }
