-- `fill_rows::cores::copy_columns` meets its contract. Assumes nothing.
use Rattle.std.specs.Prelude.{◌≡◌, length}
use Rattle.fill_rows.proofs.Copies.{Copying}
use Rattle.fill_rows.proofs.cores.copy_columns.Given as goal

abbrev pub invariant-loop-k : goal.invariant-loop-k
invariant-loop-k l = Copying l.parent l.l_starts l.initial.l_rows l.l_rows l.k × (length l.l_rows ≡ length l.initial.l_rows)
