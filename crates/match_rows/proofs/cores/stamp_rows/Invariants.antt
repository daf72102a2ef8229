-- `match_rows::cores::stamp_rows` meets its contract: what is left of the column is still to be stamped. Assumes nothing.
use Rattle.std.specs.Prelude.{◌≡◌, ◌+◌, ◌≤◌, length}
use lib.Seq.{slice}
use Rattle.graph.specs.Links.{rows_in}
use Rattle.tables.specs.Verdict.{at}
use Rattle.match_rows.specs.Rows.{stamps}
use Rattle.match_rows.proofs.cores.stamp_rows.Given as goal

abbrev pub invariant-loop-u : goal.invariant-loop-u
invariant-loop-u l = (l.end ≡ at l.l_starts (l.c + 1)) × (l.u ≤ l.end) × (l.end ≤ length l.l_rows) × (length l.seen ≡ 4096) × (stamps l.v (rows_in l.l_starts l.l_rows l.c) l.initial.seen ≡ stamps l.v (slice l.u l.end l.l_rows) l.seen)
