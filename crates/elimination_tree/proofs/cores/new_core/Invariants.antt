-- `elimination_tree::cores::new_core` meets its contract: the tables are Liu's after j columns. Assumes nothing.
use Rattle.elimination_tree.proofs.Turns.{Growing}
use Rattle.elimination_tree.proofs.cores.new_core.Given as goal

abbrev pub invariant-loop-j : goal.invariant-loop-j
invariant-loop-j l = Growing l.starts l.rows l.n l.parent l.ancestor l.j
