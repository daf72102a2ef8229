-- `kernel_vector::cores::sub_mat_plus_vec_core` meets its contract: each row's number loses the row's sum. Assumes nothing.
use borrow.Author.Rules.{rules}
use Rattle.kernel_vector.specs.Vector.{row_sum, sub_mat_plus_vec}
use Rattle.kernel_vector.proofs.cores.sub_mat_plus_vec_core.Goals as goal

pub returns : goal.returns
unfolding sub_mat_plus_vec
returns c = rw c.requires.0 at (c.each_less.ensures (row_sum c.args.m c.args.n c.args.a.now c.args.b.now) (λ k v inside gives. search rules))
