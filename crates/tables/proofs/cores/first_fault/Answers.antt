-- `tables::cores::first_fault` meets its contract: the test has held at each place so far. Assumes nothing.
use Rattle.std.proofs.Common.{arith, true, false, sym}
use Rattle.tables.proofs.FaultLaws.{fault-here, fault-none}
use Rattle.tables.proofs.cores.first_fault.Goals as goal

pub returns-then-not-passes : goal.returns-then-not-passes
returns-then-not-passes g c test says =
    let here = c.loop-k in
    fault-here test _ _ _ (omega arith) (omega arith) (λ i l h. sym (says i true l (omega arith) (here.invariant i l h))) (sym (says here.k false (omega arith) (omega arith) c.if-not-passes.ensures))

pub returns : goal.returns
returns g c test says = fault-none test _ _ (λ i l h. sym (says i true l h (c.loop-k.invariant i l (omega arith))))
