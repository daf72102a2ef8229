-- The loop of `word_list::lent::read`: the places from `upto` on stay. Assumes nothing.
use Rattle.std.specs.Prelude.{◌≡◌, drop}
use Rattle.word_list.proofs.lent.read.Given as goal

abbrev pub invariant-loop-at : goal.invariant-loop-at
invariant-loop-at g l = drop l.upto l.out ≡ drop l.upto l.fn.out
