-- `render::refused` meets its contract: the need is the line's length. Assumes nothing.
use Rattle.std.specs.Prelude.{◌≡◌, ℕ, ◌+◌, length}
use mathlib.Core.Path.{sym, ap, ◌∙◌}
use native.Mathlib.Omega.{arith}
use borrow.Author.Rules.{rules}
use Rattle.digits.specs.Digits.{places}
use Rattle.render.specs.Lines.{refused_line}
use Rattle.render.proofs.Laws.{length-refused}
use Rattle.render.proofs.Outcomes.{renders-back, renders-short, renders-text}
use Rattle.render.proofs.refused.Goals as goal

-- how long the line is
need : (n : ℕ) {count : ℕ} → count ≡ places n → count + 9 ≡ length (refused_line n)
need n e = ap (λ (k : ℕ). k + 9) e ∙ sym (length-refused n)

pub returns-then-out-need : goal.returns-then-out-need
returns-then-out-need c = renders-short (refused_line c.args.number) c.args.out.now _ (need c.args.number c.places-need.ensures.0) c.if-out-need.true

pub refused_line-requires : goal.refused_line-requires
refused_line-requires c = omega (arith, need c.args.number c.places-need.ensures.0, c.if-out-need.false)

pub returns : goal.returns
returns c =
    renders-back _ (search rules)
    (renders-text (refused_line c.args.number) c.args.out.now (record { bytes = c.refused_line.new.w.at }) _ (omega (arith, need c.args.number c.places-need.ensures.0, c.if-out-need.false)) c.refused_line.ensures.puts)
