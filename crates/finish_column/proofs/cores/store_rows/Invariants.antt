-- `finish_column::cores::store_rows` meets its contract: the invariant: the rows before place u are stored (`UpTo`). Assumes nothing.
use Rattle.std.specs.Prelude.{◌≡◌, ◌+◌, ◌-◌, ◌≤◌, length}
use Rattle.tables.specs.Verdict.{at}
use Rattle.layout.specs.Layout.{laid}
use Rattle.finish_column.proofs.StepLaws.{UpTo}
use Rattle.finish_column.proofs.cores.store_rows.Given as goal

abbrev pub invariant-loop-u : goal.invariant-loop-u
invariant-loop-u l = record {
  begun : at l.t.l_starts.now l.j ≤ l.u;
  within : l.u ≤ at l.t.l_starts.now (l.j + 1);
  values_len : length l.values ≡ length l.initial.values;
  stored : UpTo (laid l.t) l.places l.j l.unit l.d l.c l.initial.values l.u l.values;
}

abbrev pub decreases-loop-u : goal.decreases-loop-u
decreases-loop-u l = l.end - l.u
