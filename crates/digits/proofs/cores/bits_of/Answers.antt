-- `digits::cores::bits_of` meets its contract: there is one NaN, and other floats have bits of their own. Assumes nothing.
use mathlib.Core.Path.{sym, ◌∙◌}
use Rattle.digits.specs.Digits.{bits_of}
use Rattle.digits.proofs.cores.bits_of.Goals as goal

pub returns-then-is_nan : goal.returns-then-is_nan
unfolding bits_of
returns-then-is_nan c = rw (sym c.is_nan.ensures.value ∙ c.if-is_nan.true)

pub returns : goal.returns
unfolding bits_of
returns c = rw (sym c.is_nan.ensures.value ∙ c.if-is_nan.false)
