-- `factor_order::cores::area_with` meets its contract. Assumes nothing.
use Rattle.std.specs.Prelude.{length}
use Rattle.graph.specs.Order.{moved}
use Rattle.graph.proofs.OrderLaws.{moved-permutes}
use Rattle.factor_order.proofs.AreaLaws.{measured-under, moved-below}
use Rattle.factor_order.proofs.cores.area_with.Goals as goal

pub move_late-requires : goal.move_late-requires
move_late-requires c =
    let s = c.requires in
    rw s.columns.1 (s.dims_len_bound.2, s.dims_len_bound.3)

pub sizes-requires : goal.sizes-requires
sizes-requires c =
    let s = c.requires in
    let a = c.args in
    rw c.move_late.ensures (moved-below a.night.now.dims.now a.night.now.perm.now a.night.now.late.now s.dims_len_bound.2)

pub total_area-requires : goal.total_area-requires
total_area-requires c =
    let s = c.requires in
    let a = c.args in
    rw (c.sizes.ensures, c.move_late.ensures) (measured-under a.night.now.dims.now (moved a.night.now.perm.now a.night.now.late.now) a.factor.now.l_starts.now a.factor.now.l_rows.now s.dims_len_bound.0 s.dims_len_bound.1 (moved-permutes a.night.now.perm.now a.night.now.late.now (length a.night.now.dims.now) s.dims_len_bound.2) s.columns.0)

pub returns : goal.returns
returns c = rw (c.sizes.ensures, c.move_late.ensures) at c.total_area.ensures
