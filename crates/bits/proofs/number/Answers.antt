-- `bits::number` meets its contract: its test is that of a NaN's bits. Assumes nothing.
use mathlib.Core.Path.{◌∙◌}
use Rattle.bits.proofs.Laws.{nan-bits, no-nan-bits}
use Rattle.bits.proofs.number.Goals as goal

pub returns-then-bits-gt9218868437227405312 : goal.returns-then-bits-gt9218868437227405312
returns-then-bits-gt9218868437227405312 c = c.not_a_number.ensures ∙ nan-bits _ c.if-bits-gt9218868437227405312.true

pub float_from_bits-result : goal.float_from_bits-result
float_from_bits-result c = no-nan-bits _ c.if-bits-gt9218868437227405312.false
