-- `sweep::cores::sweep_row` meets its contract: the row where the vector is cut in two (`joined`). Assumes nothing.
use Rattle.std.specs.Prelude.{◌*◌}
use native.Mathlib.Nat.{add-sub_cancel_left}
use borrow.Author.Rules.{rules}
use Rattle.tables.specs.Verdict.{at}
use Rattle.block_product.specs.Working.{slot}
use Rattle.sweep.proofs.SweepLaws.{joined}
use Rattle.sweep.proofs.cores.sweep_row.Goals as goal

pub returns : goal.returns
returns g c =
    let x = c.args in
    let r = x.r.now in
    let cut = c.split_at_mut-front in
    let i = at r.l_rows.now x.u in
    let h = at r.sizes.now i in
    let a = slot (at r.l_offsets.now x.u) (h * x.w) r.l_values.now in
    rw (cut.ensures.value, add-sub_cancel_left)
    (joined x.s x.w (at r.starts.now i) h cut.result.0.now cut.result.1.now c.row.new.x cut.ensures.front_len c.requires.behind (rw cut.ensures.value at c.requires.block) (search rules) g.D.Direction.pass a c.row.new.y (rw (add-sub_cancel_left, add-sub_cancel_left) at c.row.ensures))
