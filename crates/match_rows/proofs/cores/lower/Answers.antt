-- `match_rows::cores::lower` meets its contract. Assumes nothing.
use mathlib.Core.Path.{sym, ◌∙◌}
use Rattle.match_rows.proofs.LowLaws.{lowered-taken, lowered-listed, lowered-past}
use Rattle.match_rows.proofs.cores.lower.Goals as goal

pub returns-then-not-holds : goal.returns-then-not-holds
returns-then-not-holds c = lowered-taken _ _ _ _ c.if-k-least.true (sym c.holds.ensures ∙ c.if-not-holds.true)

pub returns-else-not-holds : goal.returns-else-not-holds
returns-else-not-holds c = lowered-listed _ _ _ _ c.if-k-least.true (sym c.holds.ensures ∙ c.if-not-holds.false)

pub returns-else-k-least : goal.returns-else-k-least
returns-else-k-least c = lowered-past _ _ _ _ c.if-k-least.false
