-- `kernel_vector_transpose::cores::sub_mat_transpose_plus_vec_core` meets its contract: each column's number loses the column's sum. Assumes nothing.
use borrow.Author.Rules.{rules}
use Rattle.kernel_vector_transpose.specs.VectorTranspose.{column_sum, sub_mat_transpose_plus_vec}
use Rattle.kernel_vector_transpose.proofs.cores.sub_mat_transpose_plus_vec_core.Goals as goal

pub returns : goal.returns
unfolding sub_mat_transpose_plus_vec
returns c = rw c.requires.0 at (c.each_less.ensures (column_sum c.args.m c.args.a.now c.args.z.now) (λ k v inside gives. search rules))
