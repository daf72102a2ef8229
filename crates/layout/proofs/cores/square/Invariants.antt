-- `layout::cores::square` meets its contract. Assumes nothing.
use Rattle.scalars.proofs.Filling.{Filled}
use Rattle.layout.specs.Layout.{squares}
use Rattle.layout.proofs.cores.square.Given as goal

abbrev pub invariant-loop-k : goal.invariant-loop-k
invariant-loop-k l = Filled (squares l.sizes) l.out l.k
