-- `scalar::max` meets its contract: each way rewrites the definition with the tests that led there. Assumes nothing.
use mathlib.Core.Path.{sym, ◌∙◌}
use Rattle.scalar.specs.Scalar.{max}
use Rattle.scalar.proofs.max.Goals as goal

pub returns-then-is_nan : goal.returns-then-is_nan
unfolding max
returns-then-is_nan c = rw (sym c.is_nan.ensures.value ∙ c.if-is_nan.true)

pub returns-then-a-b : goal.returns-then-a-b
unfolding max
returns-then-a-b c = rw (sym c.is_nan.ensures.value ∙ c.if-is_nan.false, c.if-a-b.true)

pub returns-else-a-b : goal.returns-else-a-b
unfolding max
returns-else-a-b c = rw (sym c.is_nan.ensures.value ∙ c.if-is_nan.false, c.if-a-b.false)
