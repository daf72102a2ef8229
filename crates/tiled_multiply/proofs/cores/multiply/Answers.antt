-- `tiled_multiply::cores::multiply` meets its contract. Assumes nothing.
use mathlib.Core.Path.{◌∙◌}
use borrow.Author.Rules.{rules}
use Rattle.tiled_multiply.proofs.GridLaws.{all_entries}
use Rattle.tiled_multiply.proofs.cores.multiply.Goals as goal

pub returns-then-w-eq1 : goal.returns-then-w-eq1
returns-then-w-eq1 c = let x = c.args in rw (c.if-h-eq1.true, c.if-w-eq1.true) (c.one.ensures ∙ all_entries 1 x.m 1 x.a.now x.b.now x.q.now (search rules))
