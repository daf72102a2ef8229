-- `keep_column::cores::keep_column` meets its contract. Assumes nothing.
use Rattle.std.specs.Prelude.{◌+◌, ◌*◌}
use native.Mathlib.Nat.{add-sub_cancel_left}
use native.Mathlib.Omega.{arith}
use Rattle.tables.specs.Verdict.{at}
use Rattle.block_product.specs.Working.{slot}
use Rattle.keep_column.proofs.KeepLaws.{one_more}
use Rattle.keep_column.proofs.cores.keep_column.Goals as goal

pub loop-u-preserved : goal.loop-u-preserved
loop-u-preserved c =
    let x = c.args in
    let t = x.t.now in
    let n = at t.sizes.now x.j in
    let l = c.loop-u in
    record {
      inside = (omega arith, omega arith);
      kept =
          one_more t.sizes.now t.l_rows.now t.l_offsets.now x.j (at t.l_starts.now x.j) x.l_values.now (slot (at t.unit_starts.now x.j) (n * n) x.diag.now) x.cache.now
          (at t.l_starts.now (x.j + 1)) l.u l.cache _ c.requires.keep_fit l.invariant.inside.0 (omega arith) l.invariant.kept (rw add-sub_cancel_left at c.keep_row.ensures);
    }
