-- `symbolic::cores::store_climbs` meets its contract. The invariants are the records of `Climbs`, and each answer names the law for its way through the code.
-- Assumes nothing.
use Rattle.std.specs.Prelude.{ℕ, ◌-◌, List, length}
use Rattle.symbolic.proofs.Climbs.{Scanning, Stored, StoreClimb}
use Rattle.symbolic.proofs.cores.store_climbs.Given as goal

abbrev pub invariant-loop-stamp : goal.invariant-loop-stamp
invariant-loop-stamp l = StoreClimb l.parent l.j l.mark l.initial.stamp l.initial.next l.initial.table l.initial.at l.stamp l.next l.table l.at

abbrev pub decreases-loop-stamp : goal.decreases-loop-stamp
decreases-loop-stamp l = length l.parent - l.at

abbrev pub invariant-loop-i : goal.invariant-loop-i
invariant-loop-i l = (found : List ℕ) × Scanning l.parent l.rows l.j l.mark l.initial.stamp l.i-index l.stamp found × Stored l.j l.initial.next l.initial.table found l.next l.table
