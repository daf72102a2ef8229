-- `tiled_product::cores::one` meets its contract: how far the entry is. Assumes nothing.
use Rattle.std.specs.Prelude.{◌≡◌, ◌≤◌}
use Rattle.scalar.specs.Block.{at}
use Rattle.tiled_product.specs.Tiled.{after_turns}
use Rattle.tiled_product.proofs.cores.one.Given as goal

abbrev pub invariant-loop-t : goal.invariant-loop-t
invariant-loop-t g l = let f = g.P.Product.formula l.p in (l.t ≤ f.turns) × (l.s ≡ after_turns f l.t 0 0 (at l.y 1 0 0))
