-- `backward::cores::UpDirection::row` meets its contract (`row_touches`). Assumes nothing.
use borrow.Author.Rules.{rules}
use Rattle.backward.proofs.BackwardLaws.{row_touches}
use Rattle.backward.proofs.cores.UpDirection.row.Goals as goal

pub returns : goal.returns
returns c = let x = c.args in row_touches x.h x.w x.a.now x.x.now x.y.now _ (search rules) c.sub_columns.ensures
