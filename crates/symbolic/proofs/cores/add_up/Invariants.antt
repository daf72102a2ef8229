-- `symbolic::cores::add_up` meets its contract: two sums, one turn a column. Assumes nothing.
use Rattle.symbolic.proofs.Numbers.{Totalled}
use Rattle.symbolic.proofs.cores.add_up.Given as goal

abbrev pub invariant-loop-c : goal.invariant-loop-c
invariant-loop-c l = Totalled l.count l.stored l.products l.c-index
