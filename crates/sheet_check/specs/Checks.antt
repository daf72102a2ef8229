-- The checks of a sheet's tables in `fit`'s own order, from document 01, "The sheet and the program `fit`": once the tables are there,
-- 2, 3, 5, 6, 8, 9, 10 by number, where 3 is a contents column that falls or isn't below n; 16 for scalars, then values; 15 for
-- offsets and end. The program's room is named here and nowhere else. Assumes nothing.
use Rattle.std.specs.Prelude.{◌≡◌, ℕ, ◌+◌, ◌*◌, ◌<◌, ◌≤◌, cond, List, [], ◌∷◌, length, ◌==◌, nat_lt}
use Rattle.std.specs.Prelude.{Float}
use Rattle.refusal.specs.Refusal.{Told, done, accepted, verdict, first_of, bad_sheet, no_room}
use Rattle.refusal.specs.Check.{tolerance_check}
use Rattle.tables.specs.Verdict.{areas, from_diagonal, dims_check, rows_check, order_check, perm_check, late_check}
use Rattle.tables.specs.Sound.{Sizes, Columns}
use Rattle.scalars.specs.Scalars.{scalar_count}
use Rattle.contents.specs.Contents.{starts_from, columns_check, offsets_check, Sorted}

-- ---- the program's room

abbrev pub room_blocks : ℕ
room_blocks = 128

abbrev pub room_scalars : ℕ
room_scalars = 512

abbrev pub room_stored : ℕ
room_stored = 1024

abbrev pub room_values : ℕ
room_values = 4096

-- of L, which is tested after the plan
abbrev pub room_factor : ℕ
room_factor = 8192

-- 16: more than there is room for
abbrev pub room_check : (room count : ℕ) → Told
room_check room count = cond (nat_lt room count) no_room done

-- ---- the checks

-- dimensions, late flags, permutation, the rows, columns and offsets of the contents, tolerance, where the bodies begin, and how many
-- bytes there are
module _ (dims late perm rows columns offsets : List ℕ) (tol : Float) (bodies size : ℕ) where
  -- where each column begins
  abbrev pub starts_here : List ℕ
  starts_here = starts_from columns (length dims)

  -- how many numbers the bodies have
  abbrev pub values_here : ℕ
  values_here = areas dims starts_here rows

  -- 15: the sheet ends behind the right side, and has nothing more
  abbrev pub end_check : Told
  end_check = cond (size == bodies + 8 * (values_here + scalar_count dims)) done bad_sheet

  -- 16 for scalars, then values; 15 for offsets and end
  abbrev pub room_checks : List Told
  room_checks = room_check room_scalars (scalar_count dims) ∷ room_check room_values values_here ∷ offsets_check dims rows columns offsets bodies ∷ end_check ∷ []

  -- 5, 6, 8, 9, 10 before them
  abbrev pub number_checks : List Told
  number_checks =
      rows_check from_diagonal starts_here rows (length dims)
      ∷ order_check starts_here rows (length dims)
      ∷ perm_check perm (length dims)
      ∷ late_check late (length dims)
      ∷ tolerance_check tol
      ∷ room_checks

  -- 2 and 3 before those
  abbrev pub table_checks : List Told
  table_checks = dims_check dims ∷ columns_check columns (length dims) ∷ number_checks

  -- what is told where a list of checks passes: the counts and the tolerance
  abbrev pub night_told : Told
  night_told = accepted (length dims ∷ length rows ∷ values_here ∷ scalar_count dims ∷ []) (tol ∷ [])

  abbrev pub told_after : List Told → Told
  told_after checks = first_of (verdict checks) night_told

-- ---- what the code that checks them goes by

-- tables of one sheet
pub record Unpacked (dims rows columns offsets : List ℕ) (bodies : ℕ) : Type 0 where
  pub blocks : length dims ≤ 4096
  pub as_rows : length rows ≡ length columns
  pub as_offsets : length offsets ≡ length columns
  pub few : length columns ≤ 65536
  pub near : bodies < 4294967296

-- 2 and 3 have passed
pub record Laid (dims starts columns : List ℕ) : Type 0 where
  pub sizes : Sizes dims
  pub sorted : Sorted columns (length dims)
  pub by_starts : starts ≡ starts_from columns (length dims)

-- and 5 and 6
pub record Stored (dims starts rows columns : List ℕ) : Type 0 where
  pub laid : Laid dims starts columns
  pub in_columns : Columns from_diagonal (length dims) starts rows
