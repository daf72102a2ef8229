-- `factor_match::cores::first_lacking` meets its contract: the lowest of two, if there is one. Assumes nothing.
use Rattle.std.specs.Prelude.{length}
use mathlib.Core.Path.{sym, ◌∙◌}
use Rattle.graph.specs.Links.{rows_in, linked_in}
use Rattle.match_rows.specs.Rows.{given_in, passed_on}
use Rattle.factor_match.proofs.MatchLaws.{lowest-before, lowest-after, lowest-other}
use Rattle.factor_match.proofs.cores.first_lacking.Goals as goal

pub returns-in-Some : goal.returns-in-Some
unfolding given_in
returns-in-Some c =
    lowest-before (passed_on (rows_in c.args.l_starts.now c.args.l_rows.now) (length c.args.links.now.order.now)) (linked_in c.args.links.now.starts.now c.args.links.now.rows.now c.args.links.now.order.now) c.in-Some.column _ c.in-Some.ensures c.first_unlinked-unlinked.ensures (sym c.is_before.ensures ∙ c.if-is_before.true)

pub returns-in_default : goal.returns-in_default
unfolding given_in
returns-in_default c =
    lowest-after (passed_on (rows_in c.args.l_starts.now c.args.l_rows.now) (length c.args.links.now.order.now)) (linked_in c.args.links.now.starts.now c.args.links.now.rows.now c.args.links.now.order.now) c.in-Some.column _ c.in-Some.ensures c.first_unlinked-unlinked.ensures (sym c.is_before.ensures ∙ c.if-is_before.false)

pub returns-in_default-2 : goal.returns-in_default-2
unfolding given_in
returns-in_default-2 c =
    lowest-other (passed_on (rows_in c.args.l_starts.now c.args.l_rows.now) (length c.args.links.now.order.now)) (linked_in c.args.links.now.starts.now c.args.links.now.rows.now c.args.links.now.order.now) _ c.in_default.ensures c.first_unlinked-unlinked.ensures
