-- `symbolic::cores::counts` meets its contract: the counts are the lengths of the columns made so far, the sum the numbers of the rows done. Assumes nothing.
use Rattle.std.specs.Prelude.{◌≡◌, length}
use Rattle.symbolic.proofs.Passes.{Counting, Numbering}
use Rattle.symbolic.proofs.cores.counts.Given as goal

abbrev pub invariant-loop-j : goal.invariant-loop-j
invariant-loop-j l = Counting l.t.starts.now l.t.rows.now (length l.t.parent.now) l.t.parent.now l.stamp l.count l.j × (l.n ≡ length l.t.parent.now) × Numbering l.t.starts.now l.t.rows.now (length l.t.parent.now) l.sizes l.numbers l.j
