-- `replay::same` meets its contract: there is one NaN, and other floats have bits of their own. Assumes nothing.
use mathlib.Core.Path.{sym, ◌∙◌}
use borrow.Author.Rules.{rules}
use Rattle.replay.proofs.Laws.{same-nan, one-nan, same_bits}
use Rattle.replay.proofs.same.Goals as goal

pub returns-then-is_nan : goal.returns-then-is_nan
returns-then-is_nan c = rw (c.is_nan-then-is_nan.ensures.value) (same-nan _ _ (sym c.is_nan.ensures.value ∙ c.if-is_nan.true))

pub returns-then-is_nan-2 : goal.returns-then-is_nan-2
returns-then-is_nan-2 c = one-nan _ _ (sym c.is_nan.ensures.value ∙ c.if-is_nan.false) (sym c.is_nan-2.ensures.value ∙ c.if-is_nan-2.true)

pub returns : goal.returns
returns c = same_bits _ _ (search rules) (search rules)
