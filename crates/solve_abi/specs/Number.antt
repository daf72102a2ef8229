-- What the exported solve and marks answer: the number of an outcome of `solve::solve_inplace` and of `marks::marks`, and what it carries.
-- Assumes nothing.
use Rattle.std.specs.Prelude.{ℕ, List, ◌≡◌, Float, length, Result}
use Rattle.refusal.specs.Refusal as refusal
use Rattle.report.specs.Report.{carried}
use Rattle.solve.specs.Solve.{Call, Solves}
use Rattle.solve.specs.Solve as solve
use Rattle.solve.specs.declared.SolveError.{SolveError}
use Rattle.marks.specs.Marks.{Marks, marks_verdict}
use Rattle.marks.specs.Marks as marks
use Rattle.marks.specs.declared.Tally.{Tally}
use Rattle.marks.specs.declared.MarksError.{MarksError}

-- the solve a: the number, the three places and the lent places afterwards are those of an outcome with which `solve::solve_inplace`
-- keeps its promise
pub record ExportsSolve (a : Call) (r : ℕ) (t : List ℕ) (x y : List Float) (scalar_perm sizes scalar_starts : List ℕ) : Type 0 where
  pub outcome : Result Unit SolveError
  pub solves : Solves a outcome x y scalar_perm sizes scalar_starts
  pub number : r ≡ refusal.number (solve.told outcome)
  pub carries : t ≡ carried (solve.told outcome)

-- the marks: the number, the three places and the bytes afterwards are those of an outcome with which `marks::marks` keeps its promise
pub record ExportsMarks (dims order : List ℕ) (d : List Float) (tol : Float) (bytes : List ℕ) (r : ℕ) (t : List ℕ) (bytes' : List ℕ) : Type 0 where
  pub outcome : Result Tally MarksError
  pub says : Marks (marks_verdict dims order (length d) tol (length bytes)) dims order d tol bytes outcome bytes'
  pub number : r ≡ refusal.number (marks.told outcome)
  pub carries : t ≡ carried (marks.told outcome)
