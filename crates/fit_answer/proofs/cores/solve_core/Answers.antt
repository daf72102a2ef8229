-- `fit_answer::cores::solve_core` meets its contract: what the night answers is what is rendered. Assumes nothing.
use Rattle.std.specs.Prelude.{◌≡◌, ℕ, ◌≤◌, List, ◌++◌, length, take, drop, replicate}
use mathlib.Core.Path.{sym, ap, subst, ◌∙◌}
use native.Mathlib.Omega.{arith}
use lib.Seq.{take_at}
use Rattle.refusal.specs.Refusal.{Told}
use Rattle.factor_setup.specs.Exact.{handed}
use Rattle.render.specs.Lines.{answer_text}
use Rattle.render.specs.Rendered.{told, Renders, text_verdict}
use Rattle.fit_answer.specs.Fit.{night_text}
use Rattle.fit_answer.proofs.Laws.{part, fit-refuses, night-refused, night-accepted, renders-as, answer-renders}
use Rattle.fit_answer.proofs.cores.solve_core.Goals as goal

-- an accepted night's lines
pub returns-in-Ok : goal.returns-in-Ok
returns-in-Ok c =
    let a = handed c.args.s.now in
    let x = c.args.x.now in
    let out = c.args.out.now in
    let text = night_text a x in
    let k = length x in
    let y = c.in-Ok.t in
    let solution = c.night_core.new.x in
    let marks = c.night_core.new.marks in
    let room : List ℕ = replicate 512 0 in
    let few : k ≤ 512 = omega (arith, c.requires.x_len, c.requires.within.scalars) in
    let long : length marks ≡ k = c.night_core.auto.marks ∙ sym (part 0 k 512 few) in
    let e : take k (marks ++ drop k room) ≡ marks = take_at marks (drop k room) k long in
    let lines = answer_text (length c.args.s.now.dims.now) y.stored y.products y.silent solution in
    subst (λ (t : Told). Renders (text_verdict text out) text out t c.answer.new.out) (sym c.line_core.ensures)
    (answer-renders (lines (take k (marks ++ drop k room))) text out (ap lines e ∙ night-accepted a x _ y solution marks c.in-Ok.ensures) (told c.answer.result) c.answer.new.out solution (take k (marks ++ drop k room))
    (omega (arith, c.night_core.auto.x, few)) (ap length e ∙ (long ∙ sym c.night_core.auto.x)) c.answer.ensures)

-- a refused night's line
pub returns-in-Err : goal.returns-in-Err
returns-in-Err c =
    let a = handed c.args.s.now in
    renders-as _ (night_text a c.args.x.now) c.args.out.now (night-refused a c.args.x.now _ c.in-Err.ensures.outcome (fit-refuses c.in-Err.refusal)) _ _ c.refused_by.ensures
