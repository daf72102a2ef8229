-- `render::cores::line_length` meets its contract: the number's digits, and all else is fixed. Assumes nothing.
use native.Mathlib.Omega.{arith}
use Rattle.render.proofs.Laws.{length-silent, length-heard}
use Rattle.render.proofs.cores.line_length.Goals as goal

pub returns-then-mark-eq0 : goal.returns-then-mark-eq0
returns-then-mark-eq0 c = (omega (arith, c.places-count.ensures), λ x. omega (arith, c.places-count.ensures.0, length-silent c.args.k x c.args.mark c.if-mark-eq0.true))

pub returns : goal.returns
returns c = (omega (arith, c.places-count.ensures), λ x. omega (arith, c.places-count.ensures.0, length-heard c.args.k x c.args.mark c.if-mark-eq0.false))
