-- `match_rows::cores::holds` meets its contract. Assumes nothing.
use mathlib.Core.Path.{◌∙◌}
use Rattle.match_rows.proofs.HalvedLaws.{holds-is}
use Rattle.match_rows.proofs.cores.holds.Goals as goal

pub returns : goal.returns
returns c = c.is_some.ensures ∙ holds-is c.args.row c.requires c.find_row.result c.find_row.ensures
