-- `right_side::cores::permute` meets its contract: the invariant: the first numbers are written. Assumes nothing.
use Rattle.std.specs.Prelude.{◌≤◌, length}
use Rattle.scalars.proofs.Filling.{Filled}
use Rattle.solution.specs.Solution.{permuted}
use Rattle.right_side.proofs.cores.permute.Given as goal

abbrev pub invariant-loop-new : goal.invariant-loop-new
invariant-loop-new l = (l.new ≤ length l.perm) × Filled (permuted l.perm l.b) l.y l.new
