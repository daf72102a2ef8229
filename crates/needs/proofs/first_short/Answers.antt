-- `needs::first_short` meets its contract: the list from place i on decides, one turn a buffer. Assumes nothing.
use mathlib.Core.Path.{sym, ap, ◌∙◌}
use native.Mathlib.Omega.{arith}
use borrow.Author.Rules.{rules}
use Rattle.std.specs.Prelude.{◌≡◌}
use Rattle.refusal.specs.Refusal.{refuses}
use Rattle.needs.specs.Needs.{told, told_error}
use Rattle.needs.proofs.Laws.{all-met, rest_out, rest_short}
use Rattle.needs.proofs.first_short.Goals as goal

pub returns-in_err-enough-clause-says : goal.returns-in_err-enough-clause-says
returns-in_err-enough-clause-says c =
    let loop = c.loop-i in
    let e : told c.from_residual.result ≡ told_error c.in_err-enough.field-0.0 = search rules in
    e ∙ sym (loop.invariant ∙ rest_short c.args.have.now c.args.need.now loop.i (omega arith) (omega arith) c.in_err-enough.field-0.0 c.in_err-enough.ensures.says)

pub returns-clause-says : goal.returns-clause-says
returns-clause-says c = sym (c.loop-i.invariant ∙ rest_out c.args.have.now c.args.need.now c.loop-i.i (omega arith))

pub returns-clause-met : goal.returns-clause-met
returns-clause-met c = all-met _ (ap refuses (c.loop-i.invariant ∙ rest_out c.args.have.now c.args.need.now c.loop-i.i (omega arith)))
