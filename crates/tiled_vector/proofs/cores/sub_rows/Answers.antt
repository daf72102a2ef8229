-- `tiled_vector::cores::sub_rows` meets its contract: the invariant: how many numbers have lost their sums. Assumes nothing.
use Rattle.std.specs.Prelude.{◌+◌}
use mathlib.Core.Path.{refl}
use borrow.Author.Rules.{rules}
use Rattle.scalar.proofs.Laws.{steps-none}
use Rattle.kernel_vector.specs.Vector.{row_sum, sub_mat_plus_vec}
use Rattle.tiled_vector.proofs.Parts.{less_more, less-length, less-all}
use Rattle.tiled_vector.proofs.cores.sub_rows.Goals as goal

pub loop-r-init : goal.loop-r-init
loop-r-init c = (search rules, refl, steps-none _ _ _ refl)

pub loop-r-preserved-then-tile-eq4 : goal.loop-r-preserved-then-tile-eq4
loop-r-preserved-then-tile-eq4 c =
    let x = c.args in
    let l = c.loop-r in
    let done = less_more (row_sum x.h x.w x.a.now x.b.now) l.r 4 x.y.now l.y _ l.invariant.2 c.rows.ensures in
    (search rules, less-length (row_sum x.h x.w x.a.now x.b.now) (l.r + 4) x.y.now _ done, done)

pub loop-r-preserved-then-tile-eq3 : goal.loop-r-preserved-then-tile-eq3
loop-r-preserved-then-tile-eq3 c =
    let x = c.args in
    let l = c.loop-r in
    let done = less_more (row_sum x.h x.w x.a.now x.b.now) l.r 3 x.y.now l.y _ l.invariant.2 c.rows-then-tile-eq3.ensures in
    (search rules, less-length (row_sum x.h x.w x.a.now x.b.now) (l.r + 3) x.y.now _ done, done)

pub loop-r-preserved : goal.loop-r-preserved
loop-r-preserved c =
    let x = c.args in
    let l = c.loop-r in
    let done = less_more (row_sum x.h x.w x.a.now x.b.now) l.r 1 x.y.now l.y _ l.invariant.2 c.rows-else-tile-eq3.ensures in
    (search rules, less-length (row_sum x.h x.w x.a.now x.b.now) (l.r + 1) x.y.now _ done, done)

pub returns : goal.returns
unfolding sub_mat_plus_vec
returns c =
    let x = c.args in
    let l = c.loop-r in
    less-all (row_sum x.h x.w x.a.now x.b.now) l.r x.h x.y.now l.y (search rules) (search rules) l.invariant.2
