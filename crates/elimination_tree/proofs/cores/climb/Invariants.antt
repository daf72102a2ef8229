-- `elimination_tree::cores::climb` meets its contract. The invariant is `Walking`, and each answer names the law for its way. Assumes nothing.
use Rattle.std.specs.Prelude.{◌-◌}
use Rattle.elimination_tree.proofs.Turns.{Walking}
use Rattle.elimination_tree.proofs.cores.climb.Given as goal

abbrev pub invariant-loop-i : goal.invariant-loop-i
invariant-loop-i l = Walking l.j l.start l.initial.parent l.initial.ancestor l.parent l.ancestor l.i

abbrev pub decreases-loop-i : goal.decreases-loop-i
decreases-loop-i l = l.j - l.i
