-- `order::cores::sizes` meets its contract. Assumes nothing.
use Rattle.std.specs.Prelude.{◌<◌, length, get_or}
use mathlib.Core.Path.{◌∙◌}
use native.Mathlib.Omega.{arith}
use lib.ListN.{length-set}
use Rattle.order.proofs.Laws.{sizes-turn, sizes-end}
use Rattle.order.proofs.cores.sizes.Goals as goal

pub loop-old-preserved : goal.loop-old-preserved
loop-old-preserved c =
    let v = c.loop-old in
    let inside : v.old-index < length c.args.order.now = omega arith in (
      omega arith,
      length-set v.order v.old-index (get_or c.args.dims.now (get_or v.order v.old-index 0) 0) ∙ v.invariant.1,
      sizes-turn c.args.dims.now c.args.order.now v.order v.old-index v.invariant.2 inside,
    )

pub returns : goal.returns
returns c =
    let v = c.loop-old in
    sizes-end c.args.dims.now c.args.order.now v.order v.old-index v.invariant.2 (omega arith)
