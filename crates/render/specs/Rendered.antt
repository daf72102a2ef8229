-- The outcome of a rendering, and its promise. Assumes nothing.
use Rattle.std.specs.Prelude.{◌≡◌, ℕ, cond, List, [], ◌∷◌, ◌++◌, length, drop, ◌==◌, nat_le, Result}
use Rattle.std.specs.Prelude.{Float}
use Rattle.refusal.specs.Refusal.{Told, told_by, accepted, done, verdict, first_of, after, short_buffer, shapes_disagree}
use Rattle.refusal.specs.Check.{need_check}
use Rattle.render.specs.declared.Text.{Text}
use Rattle.render.specs.declared.ShortText.{ShortText}
use Rattle.render.specs.declared.AnswerError.{AnswerError}
use Rattle.render.specs.declared.AnswerError.TheVariants.{Short, Mismatch}

-- document 01's number and values for each refusal of a text, and of an answer
abbrev pub told_short : ShortText → Told
told_short e = short_buffer 0 e.need

abbrev pub told_error : AnswerError → Told
told_error (Short need) = short_buffer 0 need
told_error (Mismatch place) = shapes_disagree place

-- accepted, each hands back how many bytes were written
abbrev pub told_line : Result Text ShortText → Told
told_line = told_by (λ w. accepted (w.bytes ∷ []) []) told_short

abbrev pub told : Result Text AnswerError → Told
told = told_by (λ w. accepted (w.bytes ∷ []) []) told_error

-- 12: at most 65,536 solutions, more than which no night has, and as many marks. 11, whose need only the text shows, is tested after it
abbrev pub shape_checks : (x : List Float) → (marks : List ℕ) → List Told
shape_checks x marks = cond (nat_le (length x) 65536) done (shapes_disagree 0) ∷ cond (length marks == length x) done (shapes_disagree 1) ∷ []

-- the promise of a text under a verdict v, where t is told: it stands in the first places, and those beyond are as they were; refused, all are
pub record Renders (v : Told) (text out : List ℕ) (t : Told) (out' : List ℕ) : Type 0 where
  pub outcome : t ≡ first_of v (accepted (length text ∷ []) [])
  pub buffer : out' ≡ after v out (text ++ drop (length text) out)

-- the verdict on a text alone, and on an answer
abbrev pub text_verdict : (text out : List ℕ) → Told
text_verdict text out = need_check 0 (length out) (length text)

abbrev pub answer_verdict : (x : List Float) → (marks text out : List ℕ) → Told
answer_verdict x marks text out = first_of (verdict (shape_checks x marks)) (text_verdict text out)
