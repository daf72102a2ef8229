-- `block_product::cores::block_product` meets its contract. Assumes nothing.
use native.Mathlib.Nat.{add-sub_cancel_left}
use Rattle.tables.specs.Verdict.{at}
use Rattle.block_product.proofs.WorkingLaws.{product-step}
use Rattle.block_product.proofs.cores.block_product.Goals as goal

pub returns : goal.returns
returns c =
    let x = c.args in
    let p = x.p.now in
    product-step (at p.sizes.now) x.i p.j p.k x.place x.qi.now x.qj.now x.c.now _ x.count c.requires.qi_len.2 (rw (c.sub_mat_mat_t_core.ensures, add-sub_cancel_left))
