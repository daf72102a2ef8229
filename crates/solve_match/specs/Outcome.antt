-- What the outcome of 12 says, in document 01's words. Assumes nothing.
use Rattle.std.specs.Prelude.{Result}
use Rattle.refusal.specs.Refusal.{Told, done, told_by, shapes_disagree}
use Rattle.solve_match.specs.Verdict.{bad_column}
use Rattle.solve_match.specs.declared.MatchError.{MatchError}
use Rattle.solve_match.specs.declared.MatchError.TheVariants as matched

-- document 01's number and values for each case
abbrev pub told_match_error : MatchError → Told
told_match_error (matched.Mismatch place) = shapes_disagree place
told_match_error (matched.Missing column) = bad_column 8 column 0
told_match_error (matched.Extra column) = bad_column 8 column 1
told_match_error (matched.Parent column) = bad_column 6 column 2

abbrev pub told_matched : Result Unit MatchError → Told
told_matched = told_by (λ w. done) told_match_error
