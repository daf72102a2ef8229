-- `column_products::cores::apply_column` meets its contract: Q(j) d is made in a part of qj, then the rows' products are the column's
-- (`column_products`). Assumes nothing.
use native.Mathlib.Nat.{add-sub_cancel_left}
use native.Mathlib.Omega.{arith}
use Rattle.column_products.specs.Columns.{plan_of}
use Rattle.column_products.proofs.ColumnLaws.{column_products}
use Rattle.column_products.proofs.cores.apply_column.Goals as goal

pub returns-clause-products : goal.returns-clause-products
returns-clause-products c =
    let x = c.args in
    let t = x.t.now in
    let f = x.f.now in
    let p = x.p.now in
    column_products (plan_of t f.places.now) x.j p.k p.from p.end (omega (arith, c.requires.from_lt_end)) _ _ _ c.requires.places_fit
    f.l_values.now f.diag.now f.d.now f.cache.now _ x.w.now.c.now _ x.count _ c.requires.from_lt_end.0 c.requires.from_lt_end.1
    (simp add-sub_cancel_left at c.scaled_by_d.ensures) (simp add-sub_cancel_left at c.apply_rows.ensures)
