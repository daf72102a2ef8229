-- The promise of a reading of a sheet, and what an accepted one leaves. Assumes nothing.
use Rattle.std.specs.Prelude.{◌≡◌, ℕ, ◌+◌, List, ◌++◌, take, drop, Result}
use Rattle.std.specs.Prelude.{Float}
use Rattle.refusal.specs.Refusal.{after}
use Rattle.sheet_bytes.specs.Layout.{blocks_of, stored_of, tol_of, dims_of, late_of, perm_of}
use Rattle.sheet_check.specs.Sheet.{rows_of, starts_of, value_count, scalars_of, values_of, right_side_of, sheet_verdict}
use Rattle.sheet_check.specs.Outcome.{told, sheet_told}
use Rattle.sheet_check.specs.Sound.{SheetSound}
use Rattle.sheet_check.specs.declared.cores.Night.{Night}
use Rattle.sheet_check.specs.declared.cores.SheetError.{SheetError}
use Rattle.sheet_unpack.specs.Unpack.{Kept}

-- the promise: the outcome, and each lent table afterwards. Under a refusal it is as it was; else its first places hold the sheet's,
-- and those beyond are as they were
pub record Reads (s : List ℕ) (dims late perm starts rows : List ℕ) (values right : List Float) (r : Result Night SheetError) (dims' late' perm' starts' rows' : List ℕ) (values' right' : List Float) : Type 0 where
  pub outcome : told r ≡ sheet_told s
  pub of_dims : dims' ≡ after (sheet_verdict s) dims (dims_of s ++ drop (blocks_of s) dims)
  pub of_late : late' ≡ after (sheet_verdict s) late (late_of s ++ drop (blocks_of s) late)
  pub of_perm : perm' ≡ after (sheet_verdict s) perm (perm_of s ++ drop (blocks_of s) perm)
  pub of_starts : starts' ≡ after (sheet_verdict s) starts (starts_of s ++ drop (blocks_of s + 1) starts)
  pub of_rows : rows' ≡ after (sheet_verdict s) rows (rows_of s ++ drop (stored_of s) rows)
  pub of_values : values' ≡ after (sheet_verdict s) values (values_of s ++ drop (value_count s) values)
  pub of_right : right' ≡ after (sheet_verdict s) right (right_side_of s ++ drop (scalars_of s) right)

-- what an accepted reading leaves, for whoever works with it: the sheet is sound, and the first places are its tables and numbers
pub record Holds (s : List ℕ) (night : Night) (dims late perm starts rows : List ℕ) (values right : List Float) : Type 0 where
  pub sound : SheetSound s
  pub kept : Kept s night
  pub tol : night.tol ≡ tol_of s
  pub of_dims : take night.blocks dims ≡ dims_of s
  pub of_late : take night.blocks late ≡ late_of s
  pub of_perm : take night.blocks perm ≡ perm_of s
  pub of_starts : take (night.blocks + 1) starts ≡ starts_of s
  pub of_rows : take night.stored rows ≡ rows_of s
  pub of_values : take night.values values ≡ values_of s
  pub of_right : take night.scalars right ≡ right_side_of s
