-- `match_rows::cores::unpassed_in` meets its contract: the walk of the two columns (`Walked`). Assumes nothing.
use Rattle.std.specs.Prelude.{◌≡◌, ◌+◌}
use Rattle.tables.specs.Verdict.{at}
use Rattle.match_rows.proofs.WalkLaws.{Walked}
use Rattle.match_rows.proofs.cores.unpassed_in.Given as goal

abbrev pub invariant-loop-u : goal.invariant-loop-u
invariant-loop-u l = (l.end ≡ at l.l_starts (l.c + 1)) × (l.last ≡ at l.l_starts (l.k + 1)) × Walked l.l_starts l.l_rows l.c l.k l.u l.place
