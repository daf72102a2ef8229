-- `symbolic::cores::add_up` meets its contract: two sums, one turn a column. Assumes nothing.
use Rattle.std.specs.Prelude.{ℕ, ◌+◌, ◌*◌, get_or}
use mathlib.Core.Path.{sym, subst}
use native.Mathlib.Omega.{arith}
use Rattle.symbolic.proofs.Numbers.{Totalled, total-begins, total-turns, total-ends, products-le, half_le}
use Rattle.symbolic.proofs.cores.add_up.Goals as goal

pub loop-c-init : goal.loop-c-init
loop-c-init c = total-begins _

pub overflow_add-stored : goal.overflow_add-stored
overflow_add-stored c = omega (arith, c.loop-c.invariant.small.0, c.requires.1 c.loop-c.c-index c.loop-c-test.true, c.requires.0)

pub products_of-products-requires : goal.products_of-products-requires
products_of-products-requires c = c.requires.1 c.loop-c.c-index c.loop-c-test.true

pub overflow_add-products : goal.overflow_add-products
overflow_add-products c =
    let loop = c.loop-c in
    let x = get_or c.args.count.now loop.c-index 0 in
    omega (arith, loop.invariant.small.1, half_le (x * (x + 1)) (products-le x (c.requires.1 loop.c-index c.loop-c-test.true)), c.products_of-products.ensures, c.requires.0)

pub loop-c-preserved : goal.loop-c-preserved
loop-c-preserved c =
    let loop = c.loop-c in
    let count = c.args.count.now in
    let inside = c.loop-c-test.true in
    subst (λ (x : ℕ). Totalled count (loop.stored + get_or count loop.c-index 0) (loop.products + x) (loop.c-index + 1)) (sym c.products_of-products.ensures)
    (total-turns count loop.stored loop.products loop.c-index loop.invariant inside (c.requires.1 loop.c-index inside))

pub returns : goal.returns
returns c = let both = total-ends _ _ _ _ c.loop-c.invariant c.loop-c-test.false in record { stored_value = both.0; products_value = both.1 }
