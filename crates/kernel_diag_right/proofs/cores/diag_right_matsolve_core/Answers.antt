-- `kernel_diag_right::cores::diag_right_matsolve_core` meets its contract: the factor of a column is the inverse of its number of d. Assumes nothing.
use Rattle.std.specs.Prelude.{slice_index_or}
use Rattle.std.specs.Float.{nan}
use borrow.Author.Rules.{rules}
use Rattle.kernel_diag.specs.Diag.{inverse}
use Rattle.kernel_diag_right.specs.DiagRight.{diag_right_matsolve}
use Rattle.kernel_diag_right.proofs.cores.diag_right_matsolve_core.Goals as goal

pub returns : goal.returns
unfolding diag_right_matsolve
returns c = c.scale_columns.ensures (λ j. inverse (slice_index_or c.args.d.now j nan)) (λ j v inside gives. search rules)
