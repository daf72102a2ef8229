-- `scalar::abs` meets its contract: std's is the number with the sign of a positive one. Assumes nothing.
use mathlib.Core.Path.{◌∙◌}
use Rattle.scalar.proofs.Floats.{positive}
use Rattle.scalar.proofs.abs.Goals as goal

pub returns : goal.returns
returns c = c.abs.ensures.value ∙ positive c.args.x
