-- `digits::cores::Writer::decimal` meets its contract: a number has as many digits as it has places. Assumes nothing.
use native.Mathlib.Omega.{arith}
use Rattle.digits.specs.Digits.{places}
use Rattle.digits.proofs.Laws.{length_digits}
use Rattle.digits.proofs.cores.Writer.decimal.Goals as goal

pub digits-requires : goal.digits-requires
digits-requires c = (omega arith, omega arith, omega (arith, c.requires, c.places.ensures.0, length_digits 10 (places c.args.n) c.args.n))
