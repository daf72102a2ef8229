-- `needs_abi::check_sizes` meets its contract: the first of the three checks that refuses is told. Assumes nothing.
use Rattle.std.specs.Prelude.{◌≡◌, ℕ, ◌≤◌, List, [], ◌∷◌, None, length}
use Rattle.tables.specs.Search.{fault}
use mathlib.Core.Path.{refl, ◌∙◌}
use Rattle.refusal.specs.Refusal.{verdict}
use Rattle.tables.specs.Verdict.{dim_ok, dims_check, stored_check}
use Rattle.tables.proofs.TableLaws.{sizes-of}
use Rattle.tables.proofs.CheckLaws.{stops, goes, blocks-stop, blocks-go, dims-stop, dims-go, stored-stop, stored-go}
use Rattle.needs_abi.specs.Needs.{sizes_verdict}
use Rattle.needs_abi.proofs.check_sizes.Goals as goal

-- past the first test, and past the second, what is left of the verdict is all of it
module _ (dims : List ℕ) (stored : ℕ) where
  past-blocks : length dims ≤ 4096 → verdict (dims_check dims ∷ stored_check stored ∷ []) ≡ sizes_verdict dims stored
  past-blocks few = goes (dims_check dims ∷ stored_check stored ∷ []) (blocks-go _ few)

  past-dims : length dims ≤ 4096 → None ≡ fault (dim_ok dims) 0 (length dims) → verdict (stored_check stored ∷ []) ≡ sizes_verdict dims stored
  past-dims few e = goes (stored_check stored ∷ []) (dims-go _ e) ∙ past-blocks few

pub returns-then-dims-gt-MAX_BLOCKS-clause-says : goal.returns-then-dims-gt-MAX_BLOCKS-clause-says
returns-then-dims-gt-MAX_BLOCKS-clause-says c =
    stops (dims_check c.args.dims.now ∷ stored_check c.args.stored ∷ []) (blocks-stop _ c.if-dims-gt-MAX_BLOCKS.true) refl

pub returns-in-Some-clause-says : goal.returns-in-Some-clause-says
returns-in-Some-clause-says c =
    stops (stored_check c.args.stored ∷ []) (dims-stop _ _ c.in-Some.ensures) refl ∙ past-blocks c.args.dims.now c.args.stored c.if-dims-gt-MAX_BLOCKS.false

pub returns-then-stored-gt-MAX_STORED-clause-says : goal.returns-then-stored-gt-MAX_STORED-clause-says
returns-then-stored-gt-MAX_STORED-clause-says c =
    stops [] (stored-stop _ c.if-stored-gt-MAX_STORED.true) refl ∙ past-dims c.args.dims.now c.args.stored c.if-dims-gt-MAX_BLOCKS.false c.in_default.ensures

pub returns-clause-says : goal.returns-clause-says
returns-clause-says c =
    goes [] (stored-go _ c.if-stored-gt-MAX_STORED.false) ∙ past-dims c.args.dims.now c.args.stored c.if-dims-gt-MAX_BLOCKS.false c.in_default.ensures

pub returns-clause-fits : goal.returns-clause-fits
returns-clause-fits c = (sizes-of c.args.dims.now c.in_default.ensures, c.if-dims-gt-MAX_BLOCKS.false, c.if-stored-gt-MAX_STORED.false)
