-- What the program `fit` prints for the bytes of a sheet: document 01, "The sheet and the program `fit`". The sheet's own refusals come
-- first, in their order; then 16 for L after the plan; 13 or 14 last. Assumes nothing.
use Rattle.std.specs.Prelude.{ℕ, cond, List, length}
use Rattle.std.specs.Prelude.{Float}
use Rattle.refusal.specs.Refusal.{Told, number, refuses}
use Rattle.machine.specs.System.{System, blocks, order}
use Rattle.machine.specs.Machine.{State, column_at, Run, going, stopped, run}
use Rattle.factor_setup.specs.Exact.{stored, pivots_after}
use Rattle.solution.specs.Solution.{solution}
use Rattle.marks.specs.Mark.{silent_of, marks_of}
use Rattle.sheet_check.specs.Sheet.{system_of, right_side_of, sheet_verdict}
use Rattle.render.specs.Lines.{refused_line, answer_text}
use Rattle.fit_factor.specs.Fitted.{l_room_check}

-- the line of a refusal, or a text where nothing is refused
abbrev pub refused_or : Told → List ℕ → List ℕ
refused_or v text = cond (refuses v) (refused_line (number v)) text

module _ (a : System) where
  -- the lines of an accepted night with the right side b: of the machine's last state s its L and its products, the solution with its
  -- columns, and the marks by its d
  abbrev pub night_lines : State → List Float → List ℕ
  night_lines s b =
      answer_text (blocks a) (stored a) (length s.done) (silent_of a.tol (pivots_after a (going s))) (solution a.dims (order a) (column_at s) b)
      (marks_of a.dims (order a) a.tol (pivots_after a (going s)))

  -- 13 or 14 where the run stopped
  abbrev pub run_text : Run → List Float → List ℕ
  run_text (going s) b = night_lines s b
  run_text (stopped t) b = refused_line (number t)

  -- 16 for L after the plan
  unfoldable pub night_text : List Float → List ℕ
  night_text b = refused_or (l_room_check a) (run_text (run a) b)

-- the sheet's own refusals before it
unfoldable pub printed : List ℕ → List ℕ
printed s = refused_or (sheet_verdict s) (night_text (system_of s) (right_side_of s))
