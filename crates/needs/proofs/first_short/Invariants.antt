-- `needs::first_short` meets its contract: the list from place i on decides, one turn a buffer. Assumes nothing.
use mathlib.Core.Path.{◌≡◌}
use Rattle.needs.proofs.Laws.{rest}
use Rattle.needs.proofs.first_short.Given as goal

abbrev pub invariant-loop-i : goal.invariant-loop-i
invariant-loop-i l = rest l.have l.need 0 ≡ rest l.have l.need l.i
