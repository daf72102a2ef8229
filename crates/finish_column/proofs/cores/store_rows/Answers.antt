-- `finish_column::cores::store_rows` meets its contract: a turn stores one row more (`one_more`). Assumes nothing.
use Rattle.std.specs.Prelude.{◌≡◌, ◌+◌, ◌-◌, ◌*◌, length}
use mathlib.Core.Path.{sym, ap, ◌∙◌}
use native.Mathlib.Nat.{add-sub_cancel_left}
use native.Mathlib.Omega.{arith}
use borrow.Rule.Slice.PartMut.{mid_len, same_len_mid}
use Rattle.tables.specs.Verdict.{at}
use Rattle.block_product.specs.Working.{slot}
use Rattle.layout.specs.Layout.{laid}
use Rattle.finish_column.specs.Steps.{StoreFit}
use Rattle.finish_column.proofs.StepLaws.{one_more}
use Rattle.finish_column.proofs.cores.store_rows.Goals as goal

pub loop-u-preserved : goal.loop-u-preserved
loop-u-preserved c =
    let x = c.args in
    let t = x.t.now in
    let l = c.loop-u in
    let b = c.store_block in
    let o = at t.l_offsets.now l.u in
    let area = at t.sizes.now (at t.l_rows.now l.u) * at t.sizes.now x.j in
    let fits : StoreFit (laid t) x.places.now x.j (length x.c.now) (length l.values) = rw l.invariant.values_len c.requires.store_fit in
    let g : length (slot o (o + area - o) l.values) ≡ o + area - o = mid_len o (o + area) l.values (fits.body l.u l.invariant.begun c.loop-u-test.true) in
    let stored = rw add-sub_cancel_left at b.ensures in
    record {
      begun = omega (arith, l.invariant.begun);
      within = omega (arith, c.loop-u-test.true);
      values_len = same_len_mid o (o + area - o) l.values b.new.x b.auto.x ∙ l.invariant.values_len;
      stored = one_more (laid t) x.places.now x.j x.unit.now x.d.now x.c.now x.values.now l.u l.values _ fits l.invariant.begun c.loop-u-test.true l.invariant.stored
          (sym (ap length stored) ∙ b.auto.x ∙ g ∙ add-sub_cancel_left _ _) (rw (stored, add-sub_cancel_left));
    }
