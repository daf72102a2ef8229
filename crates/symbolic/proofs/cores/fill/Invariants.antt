-- `symbolic::cores::fill` meets its contract: the table holds the columns made so far. Assumes nothing.
use Rattle.std.specs.Prelude.{◌≡◌, length}
use Rattle.symbolic.proofs.Passes.{Filling}
use Rattle.symbolic.proofs.cores.fill.Given as goal

abbrev pub invariant-loop-j : goal.invariant-loop-j
invariant-loop-j l = Filling l.t.starts.now l.t.rows.now (length l.t.parent.now) l.t.parent.now l.l_starts l.stamp l.next l.l_rows l.j × (l.n ≡ length l.t.parent.now) × (length l.l_rows ≡ length l.initial.l_rows)
