-- `match_rows::cores::column_given` meets its contract. Assumes nothing.
use Rattle.match_rows.proofs.StrayLaws.{stamped-long, stamped-low, column-tested}
use Rattle.match_rows.proofs.cores.column_given.Goals as goal

pub stray_in-requires : goal.stray_in-requires
stray_in-requires c =
    let s = c.requires in
    let a = c.args in
    record { compared = s.compared; k_in_bounds = (s.k_in_bounds, stamped-long a.links.now.starts.now a.links.now.rows.now a.links.now.order.now a.l_starts.now a.l_rows.now a.k a.seen.now _ s.families.1 s.families.2 c.stamp_children.ensures) }

pub returns : goal.returns
returns c =
    let s = c.requires in
    let a = c.args in
    let e = c.stamp_children.ensures in record { value = column-tested a.links.now.starts.now a.links.now.rows.now a.links.now.order.now a.l_starts.now a.l_rows.now a.k a.seen.now _ s.families.1 s.families.2 e s.compared.few s.compared.l_columns s.k_in_bounds _ c.stray_in.ensures c.is_none.result c.is_none.ensures; seen_len = (stamped-long a.links.now.starts.now a.links.now.rows.now a.links.now.order.now a.l_starts.now a.l_rows.now a.k a.seen.now _ s.families.1 s.families.2 e, stamped-low a.links.now.starts.now a.links.now.rows.now a.links.now.order.now a.l_starts.now a.l_rows.now a.k a.seen.now _ s.families.1 s.families.2 e) }
