-- `kernel_lower_transpose::cores::lower_transpose_matsolve_core` meets its contract: each column is solved. Assumes nothing.
use borrow.Author.Rules.{rules}
use Rattle.kernel_lower_transpose.specs.Transpose.{lower_transpose_solve, lower_transpose_matsolve}
use Rattle.kernel_lower_transpose.proofs.cores.lower_transpose_matsolve_core.Goals as goal

pub returns : goal.returns
unfolding lower_transpose_matsolve
returns c = c.each_column.ensures (lower_transpose_solve c.args.n c.args.l.now) (λ x z long gives. search rules)
