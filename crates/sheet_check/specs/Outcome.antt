-- What the outcome of a check says, in document 01's words. Assumes nothing.
use Rattle.std.specs.Prelude.{ℕ, List, [], ◌∷◌, Result}
use Rattle.refusal.specs.Refusal.{Told, told_by, accepted, first_of, bad_dimension, bad_starts, out_of_range, not_increasing, bad_permutation, bad_late_flags, bad_tolerance, bad_sheet, no_room}
use Rattle.sheet_bytes.specs.Layout.{blocks_of, stored_of, tol_of}
use Rattle.sheet_check.specs.Sheet.{value_count, scalars_of, sheet_verdict}
use Rattle.sheet_check.specs.declared.cores.Night.{Night}
use Rattle.sheet_check.specs.declared.cores.SheetError.{SheetError}
use Rattle.sheet_check.specs.declared.cores.SheetError.TheVariants as sheet

-- document 01's number and values for each refusal
abbrev pub told_error : SheetError → Told
told_error (sheet.Dimension place) = bad_dimension place
told_error (sheet.Column place) = bad_starts place
told_error (sheet.Row place) = out_of_range place
told_error (sheet.Order place) = not_increasing place
told_error (sheet.Permutation place) = bad_permutation place
told_error (sheet.Late place) = bad_late_flags place
told_error sheet.Tolerance = bad_tolerance
told_error sheet.Length = bad_sheet
told_error sheet.Room = no_room

-- an accepted sheet hands back its counts and the tolerance
abbrev pub told : Result Night SheetError → Told
told = told_by (λ w. accepted (w.blocks ∷ w.stored ∷ w.values ∷ w.scalars ∷ []) (w.tol ∷ [])) told_error

-- what is told of the bytes s: the verdict, and where that passes the sheet's counts and its tolerance
abbrev pub sheet_told : List ℕ → Told
sheet_told s = first_of (sheet_verdict s) (accepted (blocks_of s ∷ stored_of s ∷ value_count s ∷ scalars_of s ∷ []) (tol_of s ∷ []))
