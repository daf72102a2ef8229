-- `plan::lent_core` meets its contract: the first short buffer, or the plan in the first places of each. Assumes nothing.
use mathlib.Core.Path.{sym}
use Rattle.plan.proofs.Laws.{needs-refused, lengthened}
use Rattle.plan.proofs.lent_core.Goals as goal

pub returns-in_err-room : goal.returns-in_err-room
returns-in_err-room c = needs-refused _ _ _ _ _ c.from_residual.ensures c.in_err-room.ensures.says

pub returns : goal.returns
returns c = lengthened _ _ _ _ _ (sym c.in_ok-room.ensures.says) c.requires.blocks c.in_ok-room.ensures.met c.exact_core.ensures
