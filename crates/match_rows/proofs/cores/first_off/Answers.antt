-- `match_rows::cores::first_off` meets its contract. Assumes nothing.
use Rattle.match_rows.proofs.HalvedLaws.{rises-of}
use Rattle.match_rows.proofs.cores.first_off.Goals as goal

pub first_fault-requires : goal.first_fault-requires
first_fault-requires c k l h = (h, rises-of c.requires k h)
