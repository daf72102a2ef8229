-- `tables::cores::first_fault` meets its contract: the test has held at each place so far. Assumes nothing.
use Rattle.std.specs.Prelude.{ℕ, ◌<◌, ◌≤◌, true}
use Rattle.tables.proofs.cores.first_fault.Given as goal

abbrev pub invariant-loop-k : goal.invariant-loop-k
invariant-loop-k g l = (k : ℕ) → l.lo ≤ k → k < l.k → goal.P-post g l.passes k true
