-- `reach::cores::reach_core` meets its contract: what `advance` and `scan` ensure, put together.
-- Assumes nothing.
use Rattle.std.proofs.Common.{◌≡◌, ℕ, ◌+◌, List, ◌++◌, length, take, set, sym, ap, ◌∙◌, length-set}
use Rattle.reach.specs.Reach.{State, mark_of, reached, reach_of}
use Rattle.reach.proofs.cores.reach_core.Goals as goal

pub scan-top-requires : goal.scan-top-requires
scan-top-requires c =
    record { parents = c.requires.parents; stamp_len = (length-set c.advance-next.new.stamp c.args.j c.advance-next.result ∙ c.advance-next.auto.stamp ∙ c.requires.stamp_len.0, c.requires.stamp_len.1) }

pub shape_of-stamp : goal.shape_of-stamp
shape_of-stamp c =
    c.scan-top.auto.stamp ∙ length-set c.advance-next.new.stamp c.args.j c.advance-next.result ∙ c.advance-next.auto.stamp

pub returns : goal.returns
returns c =
    let parent = c.args.parent.now in
    let rows = c.args.rows.now in
    let j = c.args.j in
    let m = mark_of c.args.stamp.now c.args.mark in
    -- the walk from what `advance` left is the walk of the contract
    let same : reached parent c.advance-next.result j rows (set c.advance-next.new.stamp j c.advance-next.result) ≡ reach_of parent rows j c.args.stamp.now c.args.mark =
    ap (λ (k : ℕ). reached parent k j rows (set c.advance-next.new.stamp j k)) c.advance-next.ensures.value ∙ ap (λ (l : List ℕ). reached parent m j rows (set l j m)) c.advance-next.ensures.stamp_after in record { mark_value = (c.advance-next.ensures.value, sym (ap (λ (s : State). c.scan-top.result + length s.found) same) ∙ c.scan-top.ensures.stamp_value); out_after = c.scan-top.ensures.out_after ∙ ap (λ (s : State). take c.scan-top.result c.args.out.now ++ s.found) same; stamp_after = c.scan-top.ensures.stamp_after ∙ ap (λ (s : State). s.stamps) same }
