-- What the answer of each call says, in document 01's words. Assumes nothing.
use Rattle.std.specs.Prelude.{Result}
use Rattle.refusal.specs.Refusal.{Told, done, told_by, too_many_blocks, bad_dimension, bad_starts, too_many_stored, out_of_range, not_increasing, bad_value_count, bad_permutation, bad_late_flags, bad_tolerance}
use Rattle.checks.specs.declared.SystemError.{SystemError}
use Rattle.checks.specs.declared.SystemError.TheVariants as system
use Rattle.checks.specs.declared.PlanTablesError.{PlanTablesError}
use Rattle.checks.specs.declared.PlanTablesError.TheVariants as plan
use Rattle.checks.specs.declared.FactorError.{FactorError}
use Rattle.checks.specs.declared.FactorError.TheVariants as factor

-- of a check of A's tables, the permutation, the late flags and the tolerance
abbrev pub told_system_error : SystemError → Told
told_system_error system.Blocks = too_many_blocks
told_system_error (system.Dimension place) = bad_dimension place
told_system_error (system.Starts place) = bad_starts place
told_system_error system.Stored = too_many_stored
told_system_error (system.Row place) = out_of_range place
told_system_error (system.Order place) = not_increasing place
told_system_error system.Values = bad_value_count
told_system_error (system.Permutation place) = bad_permutation place
told_system_error (system.Late place) = bad_late_flags place
told_system_error system.Tolerance = bad_tolerance

abbrev pub told_system : Result Unit SystemError → Told
told_system = told_by (λ w. done) told_system_error

-- of a check of what a plan is made from
abbrev pub told_plan_error : PlanTablesError → Told
told_plan_error plan.Blocks = too_many_blocks
told_plan_error (plan.Dimension place) = bad_dimension place
told_plan_error (plan.Starts place) = bad_starts place
told_plan_error plan.Stored = too_many_stored
told_plan_error (plan.Row place) = out_of_range place
told_plan_error (plan.Order place) = not_increasing place
told_plan_error (plan.Permutation place) = bad_permutation place
told_plan_error (plan.Late place) = bad_late_flags place

abbrev pub told_plan : Result Unit PlanTablesError → Told
told_plan = told_by (λ w. done) told_plan_error

-- of a check of a factor's tables
abbrev pub told_factor_error : FactorError → Told
told_factor_error factor.Blocks = too_many_blocks
told_factor_error (factor.Dimension place) = bad_dimension place
told_factor_error (factor.Starts place) = bad_starts place
told_factor_error (factor.Row place) = out_of_range place
told_factor_error (factor.Order place) = not_increasing place
told_factor_error factor.Values = bad_value_count

abbrev pub told_factor : Result Unit FactorError → Told
told_factor = told_by (λ w. done) told_factor_error
