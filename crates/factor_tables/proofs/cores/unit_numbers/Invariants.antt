-- `factor_tables::cores::unit_numbers` meets its contract: at the head of the loop, the areas of the blocks seen. Assumes nothing.
use Rattle.std.specs.Prelude.{◌≡◌, ◌≤◌, length}
use Rattle.buckets.specs.Buckets.{before}
use Rattle.layout.specs.Layout.{squares}
use Rattle.factor_tables.proofs.cores.unit_numbers.Given as goal

abbrev pub invariant-loop-dim : goal.invariant-loop-dim
invariant-loop-dim l = (l.dim-index ≤ length l.dims) × (l.sum ≡ before (squares l.dims) l.dim-index)
