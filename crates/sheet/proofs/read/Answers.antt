-- `sheet::read` meets its contract: the counts of a sheet that passes are its own. Assumes nothing.
use Rattle.sheet.proofs.Laws.{kept, within-room}
use Rattle.sheet.proofs.read.Goals as goal

pub keep-requires : goal.keep-requires
keep-requires c = kept _ _ c.in_ok-night.ensures

pub returns-clause-fits : goal.returns-clause-fits
returns-clause-fits c = within-room _ _ c.in_ok-night.ensures
