-- `match_rows::cores::linked` meets its contract: of the two old numbers the greater is A's row. Assumes nothing.
use mathlib.Core.Path.{◌∙◌}
use Rattle.order.proofs.Laws.{below_at}
use Rattle.match_rows.proofs.HalvedLaws.{rises-of}
use Rattle.match_rows.proofs.PairLaws.{linked-same, linked-rises, linked-falls}
use Rattle.match_rows.proofs.cores.linked.Goals as goal

pub returns-then-i-k : goal.returns-then-i-k
returns-then-i-k c =
    let s = c.args in
    linked-same s.links.now.starts.now s.links.now.rows.now s.links.now.order.now s.i s.k c.if-i-k.true

pub holds-requires : goal.holds-requires
holds-requires c =
    let s = c.requires in
    rises-of s.columns.0 _ (below_at _ _ s.columns.1 _ s.i_in_bounds.0)

pub returns-then-p-q : goal.returns-then-p-q
returns-then-p-q c =
    let s = c.args in
    c.holds.ensures ∙ linked-rises s.links.now.starts.now s.links.now.rows.now s.links.now.order.now s.i s.k c.if-i-k.false c.if-p-q.true

pub holds-requires-2 : goal.holds-requires-2
holds-requires-2 c =
    let s = c.requires in
    rises-of s.columns.0 _ (below_at _ _ s.columns.1 _ s.i_in_bounds.1)

pub returns : goal.returns
returns c =
    let s = c.args in
    c.holds-2.ensures ∙ linked-falls s.links.now.starts.now s.links.now.rows.now s.links.now.order.now s.i s.k c.if-i-k.false c.if-p-q.false
