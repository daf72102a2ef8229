-- `scalars::cores::make_offsets` meets its contract. Assumes nothing.
use Rattle.std.specs.Prelude.{◌≡◌}
use Rattle.tables.specs.Verdict.{at}
use Rattle.scalars.specs.Bodies.{offset_at, offsets}
use Rattle.scalars.proofs.Filling.{Filled}
use Rattle.scalars.proofs.cores.make_offsets.Given as goal

abbrev pub invariant-loop-p : goal.invariant-loop-p
invariant-loop-p l = Filled (offsets l.dims l.starts l.rows) l.out l.p × (l.sum ≡ offset_at l.dims l.starts l.rows l.p)

abbrev pub invariant-loop-j : goal.invariant-loop-j
invariant-loop-j l = Filled (offsets l.dims l.starts l.rows) l.out (at l.starts l.j) × (l.sum ≡ offset_at l.dims l.starts l.rows (at l.starts l.j))
