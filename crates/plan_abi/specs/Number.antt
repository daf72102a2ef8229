-- What the exported plan answers: the number of an outcome of `plan::plan` and what it carries. Assumes nothing.
use Rattle.std.specs.Prelude.{ℕ, List, ◌≡◌, Result}
use Rattle.refusal.specs.Refusal as refusal
use Rattle.report.specs.Report.{carried}
use Rattle.plan_core.specs.Plan.{Counts, Night, Places, Plans, early, told}
use Rattle.plan_core.specs.declared.PlanError.{PlanError}

-- the call on night a in the places b: the number, the three places and the lent places afterwards are those of an outcome with which
-- `plan::plan` keeps its promise
pub record Exports (a : Night) (b : Places) (r : ℕ) (t : List ℕ) (b' : Places) : Type 0 where
  pub outcome : Result Counts PlanError
  pub plans : Plans (early a b) a b outcome b'
  pub number : r ≡ refusal.number (told outcome)
  pub carries : t ≡ carried (told outcome)
