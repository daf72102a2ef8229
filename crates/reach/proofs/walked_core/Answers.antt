-- `reach::walked_core` meets its contract: short buffers, a block past the last, or the walk in the first n places. Assumes nothing.
use Rattle.std.proofs.Common.{◌+◌, ◌-◌, length, get_or, take, drop, sym, refl, ap, ◌∙◌}
use Rattle.refusal.specs.Refusal.{Told, first_of}
use Rattle.buckets.proofs.Lists.{part_slice}
use Rattle.reach.specs.Walk.{block_check}
use Rattle.reach.proofs.WalkLaws.{rule-of, block-met, walked}
use Rattle.reach.proofs.walked_core.Goals as goal

pub reach_core-requires-clause-parents : goal.reach_core-requires-clause-parents
reach_core-requires-clause-parents c = (rule-of _ _ _ c.requires, c.if-n-j.false)

pub returns : goal.returns
returns c =
    let starts = c.args.starts.now in
    let rows = c.args.rows.now in
    let parents = c.args.parents.now in
    let j = c.args.j in
    let call = c.reach_core in
    let part = take (get_or starts (j + 1) 0 - get_or starts j 0) (drop (get_or starts j 0) rows) in
    walked starts rows parents j c.args.mark c.args.stamps.now c.args.found.now _ _ part call.new.stamp call.new.out call.result.mark call.result.top refl
    (ap (λ (t : Told). first_of t (block_check j (length parents))) (sym c.in_ok-first_short.ensures.says) ∙ block-met j (length parents) c.if-n-j.false)
    (part_slice rows (get_or starts j 0) (get_or starts (j + 1) 0)) call.ensures.mark_value.0 call.ensures.mark_value.1 call.ensures.stamp_after call.ensures.out_after
