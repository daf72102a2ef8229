-- `word_list::lent::mark` meets its contract: each place holds its mark. Assumes nothing.
use native.Mathlib.Omega.{arith}
use borrow.Author.Rules.{rules}
use Rattle.word_list.proofs.lent.mark.Goals as goal

pub returns-clause-marked : goal.returns-clause-marked
returns-clause-marked g c = λ k from below. c.set_each.ensures.each g.E.Entry.marks (λ j x inside gives. search rules) k (omega (arith, c.set_each.ensures.room))
