-- What the answer of each call says, in document 01's words. Assumes nothing.
use Rattle.std.specs.Prelude.{Result}
use Rattle.refusal.specs.Refusal.{Told, done, told_by, too_many_blocks, bad_starts, out_of_range, bad_parent, not_increasing}
use Rattle.upper_checks.specs.declared.UpperError.{UpperError}
use Rattle.upper_checks.specs.declared.UpperError.TheVariants as upper
use Rattle.upper_checks.specs.declared.TreeError.{TreeError}
use Rattle.upper_checks.specs.declared.TreeError.TheVariants as tree

-- of a check of an upper pattern
abbrev pub told_upper_error : UpperError → Told
told_upper_error upper.Blocks = too_many_blocks
told_upper_error (upper.Starts place) = bad_starts place
told_upper_error (upper.Row place) = out_of_range place
told_upper_error (upper.Order place) = not_increasing place

abbrev pub told_upper : Result Unit UpperError → Told
told_upper = told_by (λ w. done) told_upper_error

-- of a check of an upper pattern with parents
abbrev pub told_tree_error : TreeError → Told
told_tree_error tree.Blocks = too_many_blocks
told_tree_error (tree.Starts place) = bad_starts place
told_tree_error (tree.Row place) = out_of_range place
told_tree_error (tree.Parent place) = bad_parent place
told_tree_error (tree.Order place) = not_increasing place

abbrev pub told_tree : Result Unit TreeError → Told
told_tree = told_by (λ w. done) told_tree_error
