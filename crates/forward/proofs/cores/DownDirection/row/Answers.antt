-- `forward::cores::DownDirection::row` meets its contract (`row_touches`). Assumes nothing.
use Rattle.forward.proofs.ForwardLaws.{row_touches}
use Rattle.forward.proofs.cores.DownDirection.row.Goals as goal

pub returns : goal.returns
returns c = let x = c.args in row_touches x.h x.w x.a.now x.x.now x.y.now _ c.sub_rows.ensures
