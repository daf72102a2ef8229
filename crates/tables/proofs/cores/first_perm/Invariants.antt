-- `tables::cores::first_perm` meets its contract: the test has held at each place so far, and each entry passed has its mark. Assumes nothing.
use Rattle.std.specs.Prelude.{◌≡◌, ℕ, ◌<◌, true, take}
use Rattle.tables.specs.Sound.{Marked}
use Rattle.tables.specs.Verdict.{perm_ok}
use Rattle.tables.proofs.cores.first_perm.Given as goal

abbrev pub invariant-loop-i : goal.invariant-loop-i
invariant-loop-i l = record {
  passed : (k : ℕ) → k < l.i → perm_ok l.perm l.n k ≡ true;
  marked : Marked l.seen (take l.i l.perm);
}
