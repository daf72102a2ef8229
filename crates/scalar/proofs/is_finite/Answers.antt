-- `scalar::is_finite` meets its contract. Assumes nothing.
use mathlib.Core.Path.{◌∙◌}
use Rattle.scalar.proofs.Floats.{finite}
use Rattle.scalar.proofs.is_finite.Goals as goal

pub returns : goal.returns
returns c = c.is_finite.ensures.value ∙ finite c.args.x
