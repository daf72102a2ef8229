-- `scalar::min` meets its contract: each way rewrites the definition with the tests that led there. Assumes nothing.
use mathlib.Core.Path.{sym, ◌∙◌}
use Rattle.scalar.specs.Scalar.{min}
use Rattle.scalar.proofs.min.Goals as goal

pub returns-then-is_nan : goal.returns-then-is_nan
unfolding min
returns-then-is_nan c = rw (sym c.is_nan.ensures.value ∙ c.if-is_nan.true)

pub returns-then-b-a : goal.returns-then-b-a
unfolding min
returns-then-b-a c = rw (sym c.is_nan.ensures.value ∙ c.if-is_nan.false, c.if-b-a.true)

pub returns-else-b-a : goal.returns-else-b-a
unfolding min
returns-else-b-a c = rw (sym c.is_nan.ensures.value ∙ c.if-is_nan.false, c.if-b-a.false)
