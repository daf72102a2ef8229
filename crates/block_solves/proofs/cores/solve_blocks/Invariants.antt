-- `block_solves::cores::solve_blocks` meets its contract: the invariant: the first j blocks are solved. Assumes nothing.
use Rattle.std.specs.Prelude.{◌≡◌, ◌≤◌, length}
use Rattle.tables.specs.Verdict.{at}
use Rattle.layout.specs.Layout.{unit_starts_of}
use Rattle.block_solves.specs.Blocks.{Solves}
use Rattle.block_solves.proofs.cores.solve_blocks.Given as goal

abbrev pub invariant-loop-j : goal.invariant-loop-j
invariant-loop-j l = record {
  within : l.j ≤ length l.sizes;
  y_len : length l.y ≡ length l.initial.y;
  next_unit : l.unit ≡ at (unit_starts_of l.sizes) l.j;
  solved : Solves l.sizes l.starts l.diag l.d l.j l.initial.y l.y;
}
