-- What each check of 12 says where its test fails, and where it holds, and what one that passes says. Assumes nothing.
use Rattle.std.specs.Prelude.{◌≡◌, ℕ, Bool, true, false, Result, Ok, Err}
use mathlib.Core.Bool.{false≢true}
use mathlib.Core.Path.{refl, ◌∙◌, sym}
use native.Mathlib.Nat.{mul-one}
use Rattle.refusal.specs.Refusal.{done, shapes_disagree, refuses}
use Rattle.refusal.proofs.Laws.{area-differs, area-fits, column-passes}
use Rattle.factor_match.specs.declared.cores.ColumnError.{ColumnError}
use Rattle.factor_match.specs.declared.cores.ColumnError.TheVariants as kind
use Rattle.solve_match.specs.Verdict.{table_check, count_check, told_column, told_match}

module _ (place : ℕ) where
  pub table-stop : (same : Bool) → same ≡ false → table_check place same ≡ shapes_disagree place
  table-stop same e = rw e

  pub table-go : (same : Bool) → same ≡ true → table_check place same ≡ done
  table-go same e = rw e

  pub table-pass : (same : Bool) → refuses (table_check place same) ≡ false → same ≡ true
  table-pass true e = refl
  table-pass false e = cc

  module _ (need count : ℕ) where
    pub count-stop : (count ≡ need → ⊥) → count_check place need count ≡ shapes_disagree place
    count-stop differs = area-differs place need 1 count (λ e. differs (e ∙ mul-one need))

    pub count-go : count ≡ need → count_check place need count ≡ done
    count-go e = area-fits place need 1 count (e ∙ sym (mul-one need))

    pub count-pass : refuses (count_check place need count) ≡ false → count ≡ need
    count-pass e = column-passes place need count e

pub column-refuses : (e : ColumnError) → refuses (told_column e) ≡ true
column-refuses (kind.Missing column) = refl
column-refuses (kind.Extra column) = refl
column-refuses (kind.Parent column) = refl

pub columns-pass : (m : Result Unit ColumnError) → refuses (told_match m) ≡ false → m ≡ Ok tt
columns-pass (Ok w) e = refl
columns-pass (Err x) e = absurd (false≢true (sym e ∙ column-refuses x))
