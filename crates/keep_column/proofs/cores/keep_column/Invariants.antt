-- `keep_column::cores::keep_column` meets its contract: the rows before place u are kept (`UpTo`). Assumes nothing.
use Rattle.std.specs.Prelude.{◌-◌, ◌*◌, ◌≤◌}
use Rattle.tables.specs.Verdict.{at}
use Rattle.block_product.specs.Working.{slot}
use Rattle.keep_column.proofs.KeepLaws.{UpTo}
use Rattle.keep_column.proofs.cores.keep_column.Given as goal

abbrev pub invariant-loop-u : goal.invariant-loop-u
invariant-loop-u l =
    record {
      inside : (l.from ≤ l.u) × (l.u ≤ l.end);
      kept : UpTo l.t.sizes.now l.t.l_rows.now l.t.l_offsets.now l.j l.from l.l_values (slot (at l.t.unit_starts.now l.j) (at l.t.sizes.now l.j * at l.t.sizes.now l.j) l.diag) l.initial.cache l.u l.cache;
    }

abbrev pub decreases-loop-u : goal.decreases-loop-u
decreases-loop-u l = l.end - l.u
