-- What the answer of the checks of counts and of dimensions says, in document 01's words. Assumes nothing.
use Rattle.std.specs.Prelude.{Result}
use Rattle.refusal.specs.Refusal.{Told, done, told_by, too_many_blocks, bad_dimension, too_many_stored}
use Rattle.needs_abi.specs.declared.NeedsError.{NeedsError}
use Rattle.needs_abi.specs.declared.NeedsError.TheVariants.{Blocks, Dimension, Stored}

abbrev pub told_error : NeedsError → Told
told_error Blocks = too_many_blocks
told_error (Dimension place) = bad_dimension place
told_error Stored = too_many_stored

abbrev pub told : Result Unit NeedsError → Told
told = told_by (λ w. done) told_error
