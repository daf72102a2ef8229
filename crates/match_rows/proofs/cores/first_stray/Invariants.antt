-- `match_rows::cores::first_stray` meets its contract: a search, one turn a column. Assumes nothing.
use Rattle.std.specs.Prelude.{◌≡◌, ℕ, ◌<◌, ◌≤◌, length}
use Rattle.graph.specs.Links.{rows_in}
use Rattle.tables.specs.Verdict.{at}
use Rattle.tables.proofs.SearchLaws.{Searched}
use Rattle.match_rows.specs.Rows.{given_in, column_given, Families}
use Rattle.match_rows.proofs.cores.first_stray.Given as goal

abbrev pub invariant-loop-k : goal.invariant-loop-k
invariant-loop-k l =
    Searched (column_given (given_in l.links.starts.now l.links.rows.now l.links.order.now l.l_starts l.l_rows) l.l_starts l.l_rows) 0 (length l.links.order.now) l.k × Families (rows_in l.l_starts l.l_rows) (length l.links.order.now) l.family.head.now l.family.sibling.now
    × (length l.seen ≡ 4096) × ((i : ℕ) → i < 4096 → at l.seen i ≤ l.k)
