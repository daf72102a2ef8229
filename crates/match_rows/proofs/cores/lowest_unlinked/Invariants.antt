-- `match_rows::cores::lowest_unlinked` meets its contract: the pairs of A's places before u have been passed (`Storing`). Assumes nothing.
use Rattle.std.specs.Prelude.{◌≡◌, ◌+◌, ◌≤◌, length}
use Rattle.graph.specs.Links.{rows_in}
use Rattle.tables.specs.Verdict.{at}
use Rattle.match_rows.proofs.PairLaws.{Storing}
use Rattle.match_rows.proofs.cores.lowest_unlinked.Given as goal

abbrev pub invariant-loop-u : goal.invariant-loop-u
invariant-loop-u l = (l.n ≡ length l.links.order.now) × (l.end ≡ at l.links.starts.now (l.c + 1)) × (at l.links.starts.now l.c ≤ l.u) × (l.u ≤ l.end) × Storing l.links.starts.now l.links.rows.now l.links.order.now l.inverse (length l.links.order.now) (rows_in l.l_starts l.l_rows) l.u l.least

abbrev pub invariant-loop-c : goal.invariant-loop-c
invariant-loop-c l = (l.n ≡ length l.links.order.now) × (l.c ≤ l.n) × Storing l.links.starts.now l.links.rows.now l.links.order.now l.inverse (length l.links.order.now) (rows_in l.l_starts l.l_rows) (at l.links.starts.now l.c) l.least
