-- What `marks::marks` answers, and what it leaves in the lent bytes, for any arguments. Assumes nothing.
use Rattle.std.specs.Prelude.{◌≡◌, ℕ, List, [], ◌∷◌, ◌++◌, length, drop, Result}
use Rattle.std.specs.Prelude.{Float}
use Rattle.refusal.specs.Refusal.{Told, told_by, accepted, too_many_blocks, bad_dimension, bad_permutation, bad_tolerance, short_buffer, shapes_disagree, first_of, verdict, after}
use Rattle.refusal.specs.Check.{tolerance_check, need_check, area_check}
use Rattle.tables.specs.Verdict.{blocks_check, dims_check, perm_check}
use Rattle.scalars.specs.Scalars.{scalar_count}
use Rattle.marks.specs.Mark.{marks_of, silent_of}
use Rattle.marks.specs.declared.Tally.{Tally}
use Rattle.marks.specs.declared.MarksError.{MarksError}
use Rattle.marks.specs.declared.MarksError.TheVariants.{Blocks, Dimension, Permutation, Tolerance, Short, Shape}

-- document 01's number and values for each case; an accepted call hands back how many scalars are silent
abbrev pub told_error : MarksError → Told
told_error Blocks = too_many_blocks
told_error (Dimension place) = bad_dimension place
told_error (Permutation place) = bad_permutation place
told_error Tolerance = bad_tolerance
told_error (Short which need) = short_buffer which need
told_error (Shape place) = shapes_disagree place

abbrev pub told : Result Tally MarksError → Told
told = told_by (λ t. accepted (t.silent ∷ []) []) told_error

-- the checks by number: 1, 2, 8 of the order, 10, 11 of the bytes, 12 of d, the slice 2 of the call; d and the bytes by their lengths
abbrev pub marks_checks : (dims order : List ℕ) → (d : ℕ) → Float → (marks : ℕ) → List Told
marks_checks dims order d tol marks =
    blocks_check (length dims) ∷ dims_check dims ∷ perm_check order (length dims) ∷ tolerance_check tol ∷ need_check 0 marks (scalar_count dims) ∷ area_check 2 (scalar_count dims) 1 d ∷ []

unfoldable pub marks_verdict : (dims order : List ℕ) → (d : ℕ) → Float → (marks : ℕ) → Told
marks_verdict dims order d tol marks = verdict (marks_checks dims order d tol marks)

-- under the verdict v: refused, the bytes are as they were; else the first are the marks, and those beyond as they were
pub record Marks (v : Told) (dims order : List ℕ) (d : List Float) (tol : Float) (marks : List ℕ) (r : Result Tally MarksError) (marks' : List ℕ) : Type 0 where
  pub outcome : told r ≡ first_of v (accepted (silent_of tol d ∷ []) [])
  pub bytes : marks' ≡ after v marks (marks_of dims order tol d ++ drop (scalar_count dims) marks)
