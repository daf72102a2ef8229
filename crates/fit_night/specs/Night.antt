-- What a night within the rooms of `fit` answers, its solution and its marks. Assumes nothing.
use Rattle.std.specs.Prelude.{◌≡◌, ℕ, ◌+◌, ◌≤◌, List, [], ◌∷◌, length, Result}
use Rattle.std.specs.Prelude.{Float}
use Rattle.refusal.specs.Refusal.{Told, told_by, accepted, first_of, after}
use Rattle.scalars.specs.Scalars.{scalar_count}
use Rattle.machine.specs.System.{System, order}
use Rattle.machine.specs.Machine.{column_at, Run, going, stopped, run}
use Rattle.layout.specs.Layout.{units_need}
use Rattle.factor_setup.specs.Exact.{stored, pivots_after}
use Rattle.solution.specs.Solution.{solution}
use Rattle.marks.specs.Mark.{silent_of, marks_of}
use Rattle.fit_factor.specs.Fitted.{told_error, l_room_check}
use Rattle.fit_factor.specs.declared.cores.FitError.{FitError}
use Rattle.fit_night.specs.declared.cores.Tally.{Tally}

-- how a night within the rooms ends
abbrev pub Night : Type 0
Night = Result Tally FitError

-- document 01's number and values; an accepted night hands back L's blocks, the block products and the silent scalars
abbrev pub told : Night → Told
told = told_by (λ t. accepted (t.stored ∷ t.products ∷ t.silent ∷ []) []) told_error

module _ (a : System) where
  -- what the machine's run answers
  abbrev pub answered : Run → Told
  answered (going s) = accepted (stored a ∷ length s.done ∷ silent_of a.tol (pivots_after a (going s)) ∷ []) []
  answered (stopped t) = t

  -- the solution for the right side b: with the columns of the last state; no solution where the run stopped
  abbrev pub solution_after : Run → List Float → List Float
  solution_after (going s) b = solution a.dims (order a) (column_at s) b
  solution_after (stopped t) b = b

  -- the marks, by d of the last state
  abbrev pub marks_after : Run → List ℕ → List ℕ
  marks_after (going s) m = marks_of a.dims (order a) a.tol (pivots_after a (going s))
  marks_after (stopped t) m = m

-- the outcome, and what the right side b and the marks m become
pub record Solves (a : System) (b : List Float) (m : List ℕ) (r : Night) (x : List Float) (marks : List ℕ) : Type 0 where
  pub outcome : told r ≡ first_of (l_room_check a) (answered a (run a))
  pub solution_is : x ≡ after (l_room_check a) b (solution_after a (run a) b)
  pub marks_are : marks ≡ after (l_room_check a) m (marks_after a (run a) m)

-- the lists are long enough, and the right side and the marks exactly as long as there are scalars
pub record Room (dims : List ℕ) (stored numbers order l_starts l_rows l_offsets l_values diag d x marks : ℕ) : Type 0 where
  pub blocks : length dims ≤ 128
  pub scalars : scalar_count dims ≤ 512
  pub of_order : length dims ≤ order
  pub of_starts : length dims + 1 ≤ l_starts
  pub of_rows : stored ≤ l_rows
  pub of_offsets : stored + 1 ≤ l_offsets
  pub of_values : numbers ≤ l_values
  pub of_diag : units_need dims ≤ diag
  pub of_d : scalar_count dims ≤ d
  pub of_x : x ≡ scalar_count dims
  pub of_marks : marks ≡ scalar_count dims
