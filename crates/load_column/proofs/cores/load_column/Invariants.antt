-- `load_column::cores::load_column` meets its contract: the invariant: the rows before place u are loaded (`UpTo`). Assumes nothing.
use Rattle.std.specs.Prelude.{◌≡◌, ◌+◌, ◌-◌, ◌≤◌, length}
use Rattle.tables.specs.Verdict.{at}
use Rattle.layout.specs.Layout.{laid}
use Rattle.load_column.specs.Blocks.{block_at}
use Rattle.load_column.proofs.ColumnLaws.{UpTo}
use Rattle.load_column.proofs.cores.load_column.Given as goal

abbrev pub invariant-loop-u : goal.invariant-loop-u
invariant-loop-u l = record {
  places_len : length l.places ≡ length l.initial.places;
  c_len : length l.c ≡ length l.initial.c;
  begun : at l.t.l_starts.now l.j ≤ l.u;
  within : l.u ≤ at l.t.l_starts.now (l.j + 1);
  loaded : UpTo (laid l.t) l.j (λ i. block_at l.a.dims.now l.a.starts.now l.a.rows.now l.a.values.now l.a.order.now i l.j) l.places l.c l.u;
}

abbrev pub decreases-loop-u : goal.decreases-loop-u
decreases-loop-u l = at l.t.l_starts.now (l.j + 1) - l.u
