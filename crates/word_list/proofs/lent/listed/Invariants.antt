-- The loop of `word_list::lent::listed`: each place passed is there, where all hold their entries. Assumes nothing.
use Rattle.std.specs.Prelude.{◌≡◌, ◌≤◌, length, true}
use Rattle.word_list.proofs.lent.listed.Given as goal

abbrev pub invariant-loop-k : goal.invariant-loop-k
invariant-loop-k g l = l.same ≡ true → l.k ≤ length l.a
