-- `match_rows::cores::first_unpassed` meets its contract: the pairs of the columns before c have been passed (`Rowing`). Assumes nothing.
use Rattle.std.specs.Prelude.{◌≤◌}
use Rattle.tables.specs.Verdict.{at}
use Rattle.match_rows.proofs.PairLaws.{Rowing}
use Rattle.match_rows.proofs.cores.first_unpassed.Given as goal

abbrev pub invariant-loop-c : goal.invariant-loop-c
invariant-loop-c l = (l.c ≤ l.n) × Rowing l.l_starts l.l_rows l.n (at l.l_starts l.c) l.least
