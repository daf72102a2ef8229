-- `factor_made::cores::make_factor` meets its contract: the tables, and then the numbers in them. Assumes nothing.
use Rattle.factor_setup.proofs.SetupLaws.{sound}
use Rattle.factor_made.proofs.cores.make_factor.Goals as goal

pub write_tables-requires-clause-plan_sound : goal.write_tables-requires-clause-plan_sound
write_tables-requires-clause-plan_sound c = (sound c.args.s.now).plan
