-- `load_column::cores::load_stored` meets its contract: found (`found-fits` says that the body lies in the values), or not. Assumes nothing.
use mathlib.Core.Path.{sym, ap, ◌∙◌}
use Rattle.scalar.specs.Block.{zeros}
use Rattle.load_column.proofs.StoredLaws.{column-rises, found-fits, found-block, none-block}
use Rattle.load_column.proofs.cores.load_stored.Goals as goal

pub find_row-requires : goal.find_row-requires
find_row-requires c = column-rises c.requires.kept c.args.row c.args.column c.requires.row_in_bounds.1

pub body_at-requires : goal.body_at-requires
body_at-requires c =
    let fits = found-fits c.requires.kept c.args.row c.args.column c.requires.row_in_bounds.1 c.in-Some.p c.in-Some.ensures in
    (fits.in_bodies, fits.in_values.0, fits.in_values.1)

pub load_body-requires : goal.load_body-requires
load_body-requires c =
    (rw c.body_at.ensures (found-fits c.requires.kept c.args.row c.args.column c.requires.row_in_bounds.1 c.in-Some.p c.in-Some.ensures).area, c.requires.row_in_bounds.2)

pub returns-in-Some : goal.returns-in-Some
returns-in-Some c =
    (rw c.body_at.ensures at c.load_body.ensures) ∙ found-block c.requires.kept c.args.row c.args.column c.requires.row_in_bounds.1 c.in-Some.p c.in-Some.ensures c.args.above

pub returns-in-None : goal.returns-in-None
returns-in-None c =
    c.clear.ensures ∙ ap zeros c.requires.row_in_bounds.2 ∙ sym (none-block c.requires.kept c.args.row c.args.column c.requires.row_in_bounds.1 c.in-None.ensures c.args.above)
