-- `layout::cores::square` meets its contract. Assumes nothing.
use Rattle.std.specs.Prelude.{◌*◌, get_or}
use mathlib.Core.Path.{sym, ◌∙◌}
use native.Mathlib.Nat.{mul-le-mul}
use native.Mathlib.Omega.{arith}
use Rattle.scalars.proofs.Filling.{filled_none, filled_more, filled_all}
use Rattle.layout.specs.Layout.{squares}
use Rattle.layout.proofs.DiagonalLaws.{length-squares, squares-at}
use Rattle.layout.proofs.cores.square.Goals as goal

pub loop-k-init : goal.loop-k-init
loop-k-init c = filled_none (squares c.args.sizes.now) c.args.out.now (c.requires.out_len ∙ sym (length-squares c.args.sizes.now))

pub overflow_mul-out : goal.overflow_mul-out
overflow_mul-out c =
    let small = c.requires.by_index c.loop-k.k c.loop-k-test.true in
    omega (arith, mul-le-mul small small)

pub bounds-out-k : goal.bounds-out-k
bounds-out-k c = omega (arith, c.loop-k.invariant.long, length-squares c.args.sizes.now)

pub loop-k-preserved : goal.loop-k-preserved
loop-k-preserved c =
    let v = c.loop-k in
    let sizes = c.args.sizes.now in
    filled_more (squares sizes) v.out v.k v.invariant 0 (get_or sizes v.k 0 * get_or sizes v.k 0) (omega (arith, length-squares sizes)) (squares-at sizes v.k)

pub returns : goal.returns
returns c =
    let v = c.loop-k in
    let sizes = c.args.sizes.now in
    filled_all (squares sizes) v.out v.k v.invariant (omega (arith, length-squares sizes))
