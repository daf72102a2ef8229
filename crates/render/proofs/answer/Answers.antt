-- `render::answer` meets its contract: the first line and the others, where the need is met. Assumes nothing.
use Rattle.std.specs.Prelude.{◌≡◌, ℕ, ◌+◌, ◌≤◌, [], ◌∷◌, length}
use mathlib.Core.Path.{sym, ap₂, subst, ◌∙◌}
use native.Mathlib.Omega.{arith}
use borrow.Author.Rules.{rules}
use lib.ListN.{length-append}
use Rattle.refusal.specs.Refusal.{Told, accepted}
use Rattle.render.specs.Lines.{first_line, lines, answer_text}
use Rattle.render.specs.Rendered.{Renders}
use Rattle.render.proofs.Laws.{puts-next}
use Rattle.render.proofs.Outcomes.{renders-back, renders-text, shapes_agree}
use Rattle.render.proofs.answer.Goals as goal

pub returns : goal.returns
returns c =
    let x = c.args in
    let out = x.out.now in
    let text = answer_text x.blocks x.stored x.products x.silent x.x.now x.marks.now in
    let head = first_line x.blocks (length x.x.now) x.stored x.products x.silent in
    let rest = lines x.x.now x.marks.now (length x.x.now) in
    let need : c.first_length.result + c.lines_length.result ≡ length text = ap₂ (λ (a b : ℕ). a + b) c.first_length.ensures.0 c.lines_length.ensures.0 ∙ sym (length-append head rest) in
    let room : length text ≤ length out = omega (arith, need, c.if-out-need.false) in
    let w = c.put_lines.new.w in
    renders-back _ (search rules)
    (subst (λ (v : Told). Renders v text out (accepted (w.at ∷ []) []) w.out.now)
    (shapes_agree text out x.x.now x.marks.now c.if-x-gt65536.false c.if-marks-x.false)
    (renders-text text out (record { bytes = w.at }) w.out.now room (puts-next rest c.first_line.ensures.puts c.put_lines.ensures.puts (omega (arith, room)))))
