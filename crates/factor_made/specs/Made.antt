-- The outputs of a factorization, where each but L's rows, offsets and values has exactly its need. Assumes nothing.
use Rattle.std.specs.Prelude.{◌≡◌, ℕ, ◌+◌, ◌++◌, drop}
use Rattle.std.specs.Prelude.{Result}
use Rattle.elimination_tree.specs.Tree.{parents_of}
use Rattle.machine.specs.System.{System, blocks, links, order}
use Rattle.machine.specs.Machine as machine
use Rattle.factor_setup.specs.Exact.{stored, numbers, l_starts, l_rows, l_offsets, values_after, units_after, pivots_after}
use Rattle.factor_setup.specs.declared.Outputs.{Outputs}
use Rattle.factor_columns.specs.Columns.{told}
use Rattle.factor_columns.specs.declared.cores.ColumnError.{ColumnError}

-- the outcome is the machine's, the tables are the plan's, and the numbers those of the machine's last state, or NaN in full; beyond a need all is as it was
pub record Makes (a : System) (r : Result ℕ ColumnError) (o p : Outputs) : Type 0 where
  pub outcome : told r ≡ machine.told (machine.run a)
  pub by_order : p.order.now ≡ order a
  pub by_parents : p.parents.now ≡ parents_of (links a) (blocks a)
  pub by_starts : p.l_starts.now ≡ l_starts a
  pub by_rows : p.l_rows.now ≡ l_rows a ++ drop (stored a) o.l_rows.now
  pub by_offsets : p.l_offsets.now ≡ l_offsets a ++ drop (stored a + 1) o.l_offsets.now
  pub by_values : p.l_values.now ≡ values_after a (machine.run a) ++ drop (numbers a) o.l_values.now
  pub by_diag : p.diag.now ≡ units_after a (machine.run a)
  pub by_d : p.d.now ≡ pivots_after a (machine.run a)
