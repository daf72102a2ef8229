-- `row_products::cores::apply_row` meets its contract. Assumes nothing.
use Rattle.std.specs.Prelude.{◌≡◌, ◌*◌, length, drop}
use mathlib.Core.Path.{◌∙◌}
use native.Mathlib.Nat.{add-sub_cancel_left}
use lib.Seq.{length-take-le, take_at}
use borrow.Author.Rules.{rules}
use Rattle.tables.specs.Verdict.{at}
use Rattle.row_products.proofs.RowLaws.{row_kept, row_made}
use Rattle.row_products.proofs.cores.apply_row.Goals as goal

pub returns-then-end-held : goal.returns-then-end-held
returns-then-end-held c =
    let x = c.args in
    let held = x.held.now in
    let p = held.pair in
    row_kept (at p.sizes.now) x.r.now.i p.j p.k x.r.now.o x.r.now.place held.values.now held.cache.now held.unit.now x.qj.now x.c.now x.count _ _ (search rules)
    (rw add-sub_cancel_left at c.block_product.ensures)

pub returns : goal.returns
returns c =
    let x = c.args in
    let held = x.held.now in
    let p = held.pair in
    let room = at p.sizes.now x.r.now.i * at p.sizes.now p.k in
    let m = c.multiply in
    let q = m.new.q in
    let e : length q ≡ room = m.auto.q ∙ length-take-le room x.qi.now c.requires.k_in_bounds.1 in
    row_made (at p.sizes.now) x.r.now.i p.j p.k x.r.now.o x.r.now.place held.values.now held.cache.now held.unit.now x.qj.now x.c.now x.count _ _ q
    (m.ensures ∙ simp add-sub_cancel_left) (simp (take_at q (drop room x.qi.now) room e) at c.block_product-2.ensures)
