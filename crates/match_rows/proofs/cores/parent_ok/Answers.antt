-- `match_rows::cores::parent_ok` meets its contract. Assumes nothing.
use Rattle.match_rows.specs.Rows.{headed}
use Rattle.match_rows.proofs.HalvedLaws.{first-code}
use Rattle.match_rows.proofs.cores.parent_ok.Goals as goal

pub returns : goal.returns
unfolding headed
returns c = rw (c.unwrap_or.ensures, c.first_row.ensures, first-code c.requires.1)
