-- `right_side::cores::unpermute` meets its contract: the invariant: the old scalars of the first new ones are written. Assumes nothing.
use Rattle.std.specs.Prelude.{◌≡◌, ℕ, ◌<◌, ◌≤◌, length, get_or}
use lib.Ieee.{nan}
use Rattle.tables.specs.Verdict.{at}
use Rattle.right_side.proofs.cores.unpermute.Given as goal

abbrev pub invariant-loop-new : goal.invariant-loop-new
invariant-loop-new l = (l.new ≤ length l.perm) × (length l.x ≡ length l.perm) × ((i : ℕ) → i < l.new → get_or l.x (at l.perm i) nan ≡ get_or l.y i nan)
