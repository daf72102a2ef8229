-- `solve_core::cores::solve_tables` meets its contract: one table after the other. Assumes nothing.
use mathlib.Core.Path.{ap, ◌∙◌}
use Rattle.order.specs.Order.{sizes_of}
use Rattle.solve_core.proofs.CoreLaws.{copy_is, copy-inside, sizes-ready}
use Rattle.solve_core.proofs.cores.solve_tables.Goals as goal

pub sizes-requires : goal.sizes-requires
sizes-requires c =
    let x = c.args in
    let p = c.requires.dims_len_bound.2 in
    copy-inside x.dims.now x.order.now p c.copy.new.to (copy_is x.dims.now x.order.now p c.copy.new.to _ c.requires.perm_len.1 c.copy.ensures)

pub make_flat_subdivision-requires-2-clause-by_index : goal.make_flat_subdivision-requires-2-clause-by_index
make_flat_subdivision-requires-2-clause-by_index c =
    let x = c.args in
    let p = c.requires.dims_len_bound.2 in
    let e = c.sizes.ensures ∙ ap (sizes_of x.dims.now) (copy_is x.dims.now x.order.now p c.copy.new.to _ c.requires.perm_len.1 c.copy.ensures) in
    (sizes-ready x.dims.now x.order.now p c.sizes.new.order _ c.requires.dims_len_bound.0 c.requires.dims_len_bound.1 (c.make_flat_subdivision.auto.starts ∙ c.requires.perm_len.2) e).1
