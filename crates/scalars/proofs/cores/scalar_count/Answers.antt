-- `scalars::cores::scalar_count` meets its contract: a sum, one turn a block; no dimension is above 16. Assumes nothing.
use Prim.Native.Nat.{zero-le}
use mathlib.Core.Path.{sym}
use native.Mathlib.Omega.{arith}
use Rattle.buckets.proofs.Turns.{before-next}
use Rattle.buckets.proofs.Laws.{nothing-before}
use Rattle.scalars.proofs.cores.scalar_count.Goals as goal

pub loop-dim-init : goal.loop-dim-init
loop-dim-init c = (zero-le, sym (nothing-before c.args.dims.now), zero-le)

pub loop-dim-preserved : goal.loop-dim-preserved
loop-dim-preserved c =
    let l = c.loop-dim in
    (omega arith, omega (arith, before-next c.args.dims.now l.dim-index), omega (arith, c.requires.0.small l.dim-index))
