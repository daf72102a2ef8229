-- `tiled_vector::cores::sub_columns` meets its contract: the invariant: how many numbers have lost their sums. Assumes nothing.
use Rattle.std.specs.Prelude.{◌+◌}
use mathlib.Core.Path.{refl}
use borrow.Author.Rules.{rules}
use Rattle.scalar.proofs.Laws.{steps-none}
use Rattle.kernel_vector_transpose.specs.VectorTranspose.{column_sum, sub_mat_transpose_plus_vec}
use Rattle.tiled_vector.proofs.Parts.{less_more, less-length, less-all}
use Rattle.tiled_vector.proofs.cores.sub_columns.Goals as goal

pub loop-c-init : goal.loop-c-init
loop-c-init c = (search rules, refl, steps-none _ _ _ refl)

pub loop-c-preserved-then-w-c-lt3 : goal.loop-c-preserved-then-w-c-lt3
loop-c-preserved-then-w-c-lt3 c =
    let x = c.args in
    let l = c.loop-c in
    let done = less_more (column_sum x.h x.a.now x.b.now) l.c 1 x.x.now l.x _ l.invariant.2 c.columns.ensures in
    (search rules, less-length (column_sum x.h x.a.now x.b.now) (l.c + 1) x.x.now _ done, done)

pub loop-c-preserved : goal.loop-c-preserved
loop-c-preserved c =
    let x = c.args in
    let l = c.loop-c in
    let done = less_more (column_sum x.h x.a.now x.b.now) l.c 3 x.x.now l.x _ l.invariant.2 c.columns-else-w-c-lt3.ensures in
    (search rules, less-length (column_sum x.h x.a.now x.b.now) (l.c + 3) x.x.now _ done, done)

pub returns : goal.returns
unfolding sub_mat_transpose_plus_vec
returns c =
    let x = c.args in
    let l = c.loop-c in
    less-all (column_sum x.h x.a.now x.b.now) l.c x.w x.x.now l.x (search rules) (search rules) l.invariant.2
