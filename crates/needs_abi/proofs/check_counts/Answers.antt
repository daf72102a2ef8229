-- `needs_abi::check_counts` meets its contract: the first of the two checks that refuses is told. Assumes nothing.
use Rattle.std.specs.Prelude.{[], ◌∷◌}
use mathlib.Core.Path.{refl, ◌∙◌}
use Rattle.tables.specs.Verdict.{stored_check}
use Rattle.tables.proofs.CheckLaws.{stops, goes, blocks-stop, blocks-go, stored-stop, stored-go}
use Rattle.needs_abi.proofs.check_counts.Goals as goal

pub returns-then-blocks-gt-MAX_BLOCKS-clause-says : goal.returns-then-blocks-gt-MAX_BLOCKS-clause-says
returns-then-blocks-gt-MAX_BLOCKS-clause-says c = stops (stored_check _ ∷ []) (blocks-stop _ c.if-blocks-gt-MAX_BLOCKS.true) refl

pub returns-then-stored-gt-MAX_STORED-clause-says : goal.returns-then-stored-gt-MAX_STORED-clause-says
returns-then-stored-gt-MAX_STORED-clause-says c =
    stops [] (stored-stop _ c.if-stored-gt-MAX_STORED.true) refl ∙ goes (stored_check _ ∷ []) (blocks-go _ c.if-blocks-gt-MAX_BLOCKS.false)

pub returns-clause-says : goal.returns-clause-says
returns-clause-says c =
    goes [] (stored-go _ c.if-stored-gt-MAX_STORED.false) ∙ goes (stored_check _ ∷ []) (blocks-go _ c.if-blocks-gt-MAX_BLOCKS.false)
