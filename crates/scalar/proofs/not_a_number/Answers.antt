-- `scalar::not_a_number` meets its contract: 0.0 / 0.0 computes to a NaN. Assumes nothing.
use borrow.Author.Rules.{rules}
use lib.Ieee.{div, of_bits}
use Rattle.scalar.proofs.not_a_number.Goals as goal

pub returns : goal.returns
unfolding div of_bits
returns c = search rules
