-- `solve_match::cores::first_mismatch` meets its contract: past its first two tests the order permutes the blocks. Assumes nothing.
use Rattle.std.specs.Prelude.{length}
use Rattle.solve_match.proofs.TestLaws.{order-permutes}
use Rattle.solve_match.proofs.cores.first_mismatch.Goals as goal

pub first_wrong-requires-clause-compared : goal.first_wrong-requires-clause-compared
first_wrong-requires-clause-compared c =
    let p = c.requires.0 in
    let q = order-permutes c.args.night.now.perm.now c.args.night.now.late.now c.args.factor.now.order.now (length c.args.night.now.dims.now) c.order_is.result c.order_is.ensures c.if-not-order_is.false p.permutes in
    record { few = rw q.entries p.blocks; columns = rw q.entries p.columns; permutes = rw q.entries q; l_columns = rw q.entries c.requires.1 }

pub first_wrong-requires-clause-parents_len : goal.first_wrong-requires-clause-parents_len
first_wrong-requires-clause-parents_len c =
    let q = order-permutes c.args.night.now.perm.now c.args.night.now.late.now c.args.factor.now.order.now (length c.args.night.now.dims.now) c.order_is.result c.order_is.ensures c.if-not-order_is.false c.requires.0.permutes in
    rw q.entries c.if-factor-night.false
