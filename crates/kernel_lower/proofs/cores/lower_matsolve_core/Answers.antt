-- `kernel_lower::cores::lower_matsolve_core` meets its contract: each column is solved. Assumes nothing.
use borrow.Author.Rules.{rules}
use Rattle.kernel_lower.specs.Lower.{lower_solve, lower_matsolve}
use Rattle.kernel_lower.proofs.cores.lower_matsolve_core.Goals as goal

pub returns : goal.returns
unfolding lower_matsolve
returns c = c.each_column.ensures (lower_solve c.args.n c.args.l.now) (λ x z long gives. search rules)
