-- `elimination_tree::cores::column` meets its contract: by what is left of the rows. Assumes nothing.
use Rattle.elimination_tree.proofs.Turns.{Scanning}
use Rattle.elimination_tree.proofs.cores.column.Given as goal

abbrev pub invariant-loop-i : goal.invariant-loop-i
invariant-loop-i l = Scanning l.j l.rows l.initial.parent l.initial.ancestor l.parent l.ancestor l.i-index
