-- `match_rows::cores::stamp_children` meets its contract: the children below x are still to be stamped. Assumes nothing.
use Rattle.std.specs.Prelude.{◌≡◌, ◌≤◌, length}
use Rattle.graph.specs.Sets.{gather}
use Rattle.graph.specs.Links.{rows_in}
use Rattle.match_rows.specs.Rows.{children, latest, stamps}
use Rattle.match_rows.proofs.cores.stamp_children.Given as goal

abbrev pub invariant-loop-x : goal.invariant-loop-x
invariant-loop-x l =
    let listed = rows_in l.l_starts l.l_rows in
    (l.x ≤ l.n) × (latest listed l.k l.x ≡ l.x) × (length l.seen ≡ 4096) × (stamps l.v (gather listed (children listed l.k l.n)) l.initial.seen ≡ stamps l.v (gather listed (children listed l.k l.x)) l.seen)

abbrev pub decreases-loop-x : goal.decreases-loop-x
decreases-loop-x l = l.x
