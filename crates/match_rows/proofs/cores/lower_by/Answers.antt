-- `match_rows::cores::lower_by` meets its contract. Assumes nothing.
use mathlib.Core.Path.{◌∙◌}
use Rattle.graph.specs.Links.{rows_in}
use Rattle.match_rows.proofs.PairLaws.{by-diagonal, by-rises, by-falls}
use Rattle.match_rows.proofs.cores.lower_by.Goals as goal

pub returns-then-row-column : goal.returns-then-row-column
returns-then-row-column c =
    let s = c.args in
    by-diagonal s.inverse.now (rows_in s.l_starts.now s.l_rows.now) s.row s.column s.least c.if-row-column.true

pub lower-requires : goal.lower-requires
lower-requires c =
    let s = c.requires in
    s.by_index _ s.row_in_bounds.0

pub returns-then-p-q : goal.returns-then-p-q
returns-then-p-q c =
    let s = c.args in
    c.lower.ensures ∙ by-rises s.inverse.now (rows_in s.l_starts.now s.l_rows.now) s.row s.column s.least c.if-row-column.false c.if-p-q.true

pub lower-requires-2 : goal.lower-requires-2
lower-requires-2 c =
    let s = c.requires in
    s.by_index _ s.row_in_bounds.1

pub returns : goal.returns
returns c =
    let s = c.args in
    c.lower-2.ensures ∙ by-falls s.inverse.now (rows_in s.l_starts.now s.l_rows.now) s.row s.column s.least c.if-row-column.false c.if-p-q.false
