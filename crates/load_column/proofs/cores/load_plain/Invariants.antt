-- `load_column::cores::load_plain` meets its contract: the first t numbers are loaded. Assumes nothing.
use Rattle.std.specs.Prelude.{◌-◌, ◌≤◌, length}
use Rattle.scalars.proofs.Filling.{Filled}
use Rattle.load_column.proofs.BodyLaws.{added}
use Rattle.load_column.proofs.cores.load_plain.Given as goal

abbrev pub invariant-loop-t : goal.invariant-loop-t
invariant-loop-t l = (l.t ≤ length l.body) × Filled (added l.body) l.y l.t

abbrev pub decreases-loop-t : goal.decreases-loop-t
decreases-loop-t l = length l.body - l.t
