-- What the answer of the check says, in document 01's words. Assumes nothing.
use Rattle.std.specs.Prelude.{Result}
use Rattle.refusal.specs.Refusal.{Told, done, told_by, too_many_blocks, bad_dimension, bad_starts, too_many_stored, out_of_range, bad_parent, not_increasing, bad_value_count, bad_permutation, bad_late_flags}
use Rattle.solve_checks.specs.Verdict.{bad_factor}
use Rattle.solve_checks.specs.declared.SolveTablesError.{SolveTablesError}
use Rattle.solve_checks.specs.declared.SolveTablesError.TheVariants as solve

-- document 01's number and values for each case
abbrev pub told_solve_error : SolveTablesError → Told
told_solve_error solve.Blocks = too_many_blocks
told_solve_error (solve.Dimension place) = bad_dimension place
told_solve_error (solve.Starts place) = bad_starts place
told_solve_error (solve.LStarts place) = bad_factor 3 place
told_solve_error solve.Stored = too_many_stored
told_solve_error (solve.Row place) = out_of_range place
told_solve_error (solve.LRow place) = bad_factor 5 place
told_solve_error (solve.Parent block) = bad_parent block
told_solve_error (solve.Order place) = not_increasing place
told_solve_error (solve.LOrder place) = bad_factor 6 place
told_solve_error solve.LValues = bad_value_count
told_solve_error (solve.Permutation place) = bad_permutation place
told_solve_error (solve.Late place) = bad_late_flags place

abbrev pub told_solve : Result Unit SolveTablesError → Told
told_solve = told_by (λ w. done) told_solve_error
