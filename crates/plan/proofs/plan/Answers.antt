-- `plan::plan` meets its contract: the tables are refused, or they pass and the needs decide. Assumes nothing.
use mathlib.Core.Path.{sym, ap}
use Rattle.refusal.specs.Refusal.{refuses}
use Rattle.tables.proofs.Sound.{plan-sound}
use Rattle.plan.proofs.Laws.{tables_refused, tables-passed}
use Rattle.plan.proofs.plan.Goals as goal

pub returns-in_err-check_plan-clause-plans : goal.returns-in_err-check_plan-clause-plans
returns-in_err-check_plan-clause-plans c = tables_refused _ _ _ _ c.from_residual.ensures c.in_err-check_plan.ensures

pub lent_core-requires : goal.lent_core-requires
lent_core-requires c = plan-sound _ _ _ _ _ (ap refuses (sym c.in_ok-check_plan.ensures))

pub returns-clause-plans : goal.returns-clause-plans
returns-clause-plans c = tables-passed _ _ _ _ c.in_ok-check_plan.ensures c.lent_core.ensures
