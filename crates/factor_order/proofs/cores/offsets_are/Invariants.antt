-- `factor_order::cores::offsets_are` meets its contract: the offsets before p agree, and the sum is the next. Assumes nothing.
use Rattle.tables.specs.Verdict.{at}
use Rattle.factor_order.proofs.OffsetLaws.{Agree}
use Rattle.factor_order.proofs.cores.offsets_are.Given as goal

abbrev pub invariant-loop-p : goal.invariant-loop-p
invariant-loop-p l = Agree l.dims l.factor.order.now l.factor.l_starts.now l.factor.l_rows.now l.factor.l_offsets.now l.p l.sum

abbrev pub invariant-loop-j : goal.invariant-loop-j
invariant-loop-j l = Agree l.dims l.factor.order.now l.factor.l_starts.now l.factor.l_rows.now l.factor.l_offsets.now (at l.factor.l_starts.now l.j) l.sum
