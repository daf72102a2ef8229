-- `factor_tables::cores::unit_numbers` meets its contract: at the head of the loop, the areas of the blocks seen. Assumes nothing.
use Rattle.std.specs.Prelude.{◌≡◌, length}
use mathlib.Core.Path.{sym, ap, ◌∙◌}
use native.Mathlib.Omega.{arith}
use Rattle.buckets.specs.Buckets.{before}
use Rattle.buckets.proofs.Turns.{before-next}
use Rattle.buckets.proofs.Laws.{nothing-before}
use Rattle.layout.specs.Layout.{squares}
use Rattle.layout.proofs.DiagonalLaws.{length-squares, squares-at}
use Rattle.factor_tables.proofs.NeedLaws.{area_small, before-most}
use Rattle.factor_tables.proofs.cores.unit_numbers.Goals as goal

pub loop-dim-init : goal.loop-dim-init
loop-dim-init c = (omega arith, sym (nothing-before (squares c.args.dims.now)))

pub overflow_cast-size : goal.overflow_cast-size
overflow_cast-size c = omega (arith, c.requires.0.small c.loop-dim.dim-index)

pub overflow_mul-sum : goal.overflow_mul-sum
overflow_mul-sum c =
    let k = c.loop-dim.dim-index in
    omega (arith, squares-at c.args.dims.now k, area_small c.args.dims.now c.requires.0 k)

pub overflow_add-sum : goal.overflow_add-sum
overflow_add-sum c =
    let k = c.loop-dim.dim-index in
    let dims = c.args.dims.now in
    let small = area_small dims c.requires.0 in
    omega (arith, c.requires.1, c.loop-dim.invariant, squares-at dims k, small k, before-most (squares dims) 256 k small)

pub loop-dim-preserved : goal.loop-dim-preserved
loop-dim-preserved c =
    let k = c.loop-dim.dim-index in
    let dims = c.args.dims.now in
    (omega arith, omega (arith, c.loop-dim.invariant.1, squares-at dims k, before-next (squares dims) k))

pub returns : goal.returns
returns c =
    let v = c.loop-dim in
    let dims = c.args.dims.now in
    let all : v.dim-index ≡ length (squares dims) = omega (arith, length-squares dims) in
    v.invariant.1 ∙ ap (before (squares dims)) all
