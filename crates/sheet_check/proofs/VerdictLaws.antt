-- What is told of a sheet's tables, test by test: each where it fails and those before it pass, and all where they pass. Assumes nothing.
use Rattle.std.specs.Prelude.{◌≡◌, ℕ, ◌+◌, ◌*◌, ◌<◌, ◌≤◌, true, false, List, length, drop, Some, None}
use mathlib.Core.Path.{refl, ◌∙◌}
use lib.Ieee.{Float}
use Rattle.scalar.specs.Scalar.{is_tolerance}
use Rattle.refusal.specs.Refusal.{Told, bad_dimension, bad_starts, out_of_range, not_increasing, bad_permutation, bad_late_flags, bad_tolerance, bad_sheet, no_room}
use Rattle.tables.specs.Search.{fault}
use Rattle.tables.specs.Verdict.{dim_ok, row_fits, order_fits, perm_ok, late_ok, from_diagonal}
use Rattle.tables.proofs.CheckLaws.{dims-stop, dims-go, rows-stop, rows-go, order-stop, order-go, perm-stop, perm-go, late-stop, late-go, tolerance-stop, tolerance-go}
use Rattle.scalars.specs.Scalars.{scalar_count}
use Rattle.contents.specs.Contents.{column_fits, offset_fits}
use Rattle.contents.proofs.Laws.{columns-stop, columns-go, offsets-stop, offsets-go}
use Rattle.sheet_check.specs.Checks.{room_scalars, room_values, starts_here, values_here, night_told, room_checks, number_checks, table_checks, told_after}
use Rattle.sheet_check.proofs.Laws.{told-stops, told-goes, room-stop, room_go, end-stop, end-go}

module _ (dims late perm rows columns offsets : List ℕ) (tol : Float) (bodies size : ℕ) where
  abbrev n : ℕ
  n = length dims

  abbrev starts : List ℕ
  starts = starts_here dims late perm rows columns offsets tol bodies size

  abbrev values : ℕ
  values = values_here dims late perm rows columns offsets tol bodies size

  abbrev night : Told
  night = night_told dims late perm rows columns offsets tol bodies size

  abbrev tells : List Told → Told
  tells = told_after dims late perm rows columns offsets tol bodies size

  -- ---- 16 for scalars, then values; 15 for the offsets, then for the end
  abbrev last : List Told
  last = room_checks dims late perm rows columns offsets tol bodies size

  pub many-scalars : room_scalars < scalar_count dims → no_room ≡ tells last
  many-scalars h = told-stops night (drop 1 last) (room-stop _ _ h) refl

  module _ (few_scalars : scalar_count dims ≤ room_scalars) where
    past-scalars : tells (drop 1 last) ≡ tells last
    past-scalars = told-goes night (drop 1 last) (room_go _ _ few_scalars)

    pub many-values : room_values < values → no_room ≡ tells last
    many-values h = told-stops night (drop 2 last) (room-stop _ _ h) refl ∙ past-scalars

    module _ (few_values : values ≤ room_values) where
      past-values : tells (drop 2 last) ≡ tells last
      past-values = told-goes night (drop 2 last) (room_go _ _ few_values) ∙ past-scalars

      pub bad-offset : (k : ℕ) → Some k ≡ fault (offset_fits dims rows columns offsets bodies) 0 (length offsets) → bad_sheet ≡ tells last
      bad-offset k e = told-stops night (drop 3 last) (offsets-stop _ _ _ _ _ k e) refl ∙ past-values

      module _ (offsets_pass : None ≡ fault (offset_fits dims rows columns offsets bodies) 0 (length offsets)) where
        past-offsets : tells (drop 3 last) ≡ tells last
        past-offsets = told-goes night (drop 3 last) (offsets-go _ _ _ _ _ offsets_pass) ∙ past-values

        pub bad-end : (size ≡ bodies + 8 * (values + scalar_count dims) → ⊥) → bad_sheet ≡ tells last
        bad-end h = told-stops night (drop 4 last) (end-stop _ _ h) refl ∙ past-offsets

        pub room-passed : size ≡ bodies + 8 * (values + scalar_count dims) → night ≡ tells last
        room-passed h = told-goes night (drop 4 last) (end-go _ _ h) ∙ past-offsets

  -- ---- 5, 6, 8, 9, 10 before them
  abbrev middle : List Told
  middle = number_checks dims late perm rows columns offsets tol bodies size

  pub bad-row : (k : ℕ) → Some k ≡ fault (row_fits from_diagonal starts rows n) 0 (length rows) → out_of_range k ≡ tells middle
  bad-row k e = told-stops night (drop 1 middle) (rows-stop _ _ _ _ k e) refl

  module _ (rows_pass : None ≡ fault (row_fits from_diagonal starts rows n) 0 (length rows)) where
    past-rows : tells (drop 1 middle) ≡ tells middle
    past-rows = told-goes night (drop 1 middle) (rows-go _ _ _ _ rows_pass)

    pub bad-order : (k : ℕ) → Some k ≡ fault (order_fits starts rows n) 0 (length rows) → not_increasing k ≡ tells middle
    bad-order k e = told-stops night (drop 2 middle) (order-stop _ _ _ k e) refl ∙ past-rows

    module _ (order_pass : None ≡ fault (order_fits starts rows n) 0 (length rows)) where
      past-order : tells (drop 2 middle) ≡ tells middle
      past-order = told-goes night (drop 2 middle) (order-go _ _ _ order_pass) ∙ past-rows

      pub bad-perm : (k : ℕ) → Some k ≡ fault (perm_ok perm n) 0 (n + 1) → bad_permutation k ≡ tells middle
      bad-perm k e = told-stops night (drop 3 middle) (perm-stop _ _ k e) refl ∙ past-order

      module _ (perm_pass : None ≡ fault (perm_ok perm n) 0 (n + 1)) where
        past-perm : tells (drop 3 middle) ≡ tells middle
        past-perm = told-goes night (drop 3 middle) (perm-go _ _ perm_pass) ∙ past-order

        pub bad-late : (k : ℕ) → Some k ≡ fault (late_ok late n) 0 (n + 1) → bad_late_flags k ≡ tells middle
        bad-late k e = told-stops night (drop 4 middle) (late-stop _ _ k e) refl ∙ past-perm

        module _ (late_pass : None ≡ fault (late_ok late n) 0 (n + 1)) where
          past-late : tells (drop 4 middle) ≡ tells middle
          past-late = told-goes night (drop 4 middle) (late-go _ _ late_pass) ∙ past-perm

          pub bad-tolerance : is_tolerance tol ≡ false → bad_tolerance ≡ tells middle
          bad-tolerance e = told-stops night (drop 5 middle) (tolerance-stop _ e) refl ∙ past-late

          pub numbers-passed : is_tolerance tol ≡ true → tells last ≡ tells middle
          numbers-passed e = told-goes night (drop 5 middle) (tolerance-go _ e) ∙ past-late

  -- ---- 2 and 3 before those
  abbrev all : List Told
  all = table_checks dims late perm rows columns offsets tol bodies size

  pub bad-dim : (k : ℕ) → Some k ≡ fault (dim_ok dims) 0 (length dims) → bad_dimension k ≡ tells all
  bad-dim k e = told-stops night (drop 1 all) (dims-stop _ k e) refl

  module _ (dims_pass : None ≡ fault (dim_ok dims) 0 (length dims)) where
    past-dims : tells (drop 1 all) ≡ tells all
    past-dims = told-goes night (drop 1 all) (dims-go _ dims_pass)

    pub bad-column : (k : ℕ) → Some k ≡ fault (column_fits columns n) 0 (length columns) → bad_starts k ≡ tells all
    bad-column k e = told-stops night (drop 2 all) (columns-stop _ _ k e) refl ∙ past-dims

    pub tables-passed : None ≡ fault (column_fits columns n) 0 (length columns) → tells middle ≡ tells all
    tables-passed e = told-goes night (drop 2 all) (columns-go _ _ e) ∙ past-dims

-- what the proofs of the three calls cite
pub ruleset room_laws = (many-scalars, many-values, bad-offset, bad-end, room-passed)

pub ruleset number_laws = (bad-row, bad-order, bad-perm, bad-late, bad-tolerance, numbers-passed)

pub ruleset table_laws = (bad-dim, bad-column, tables-passed)
