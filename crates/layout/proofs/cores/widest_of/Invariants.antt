-- `layout::cores::widest_of` meets its contract. Assumes nothing.
use Rattle.std.specs.Prelude.{◌≡◌, max, drop}
use Rattle.layout.specs.Layout.{widest}
use Rattle.layout.proofs.cores.widest_of.Given as goal

abbrev pub invariant-loop-size : goal.invariant-loop-size
invariant-loop-size l = (max l.most (widest (drop l.size-index l.sizes)) ≡ widest l.sizes)
