-- `tiled_multiply::cores::many` meets its contract. Assumes nothing.
use mathlib.Core.Path.{◌∙◌}
use borrow.Author.Rules.{rules}
use Rattle.tiled_multiply.proofs.GridLaws.{all_entries}
use Rattle.tiled_multiply.proofs.cores.many.Goals as goal

pub returns : goal.returns
returns c = let x = c.args in c.strips.ensures ∙ all_entries x.h x.m x.w x.a.now x.b.now x.q.now (search rules)
