-- A sheet, from document 01, "The sheet and the program `fit`": the tables and numbers that its bytes hold, and the verdict on
-- them in `fit`'s own order. Where a byte stands is said in `Layout` of sheet_bytes. Assumes nothing.
use Rattle.std.specs.Prelude.{ℕ, ◌+◌, ◌*◌, cond, List, ◌∷◌, length, nat_lt}
use Rattle.std.specs.Prelude.{Float}
use Rattle.refusal.specs.Refusal.{Told, done, verdict, bad_sheet}
use Rattle.tables.specs.Verdict.{areas}
use Rattle.scalars.specs.Scalars.{scalar_count}
use Rattle.machine.specs.System.{System}
use Rattle.sheet_bytes.specs.Layout.{f64s, blocks_of, stored_of, tol_of, dims_of, late_of, perm_of, entry_rows, entry_columns, entry_offsets, bodies_at}
use Rattle.contents.specs.Contents.{starts_from}
use Rattle.sheet_check.specs.Checks.{room_blocks, room_scalars, room_stored, room_values, room_check, table_checks}

-- the longest good sheet
abbrev pub room_bytes : ℕ
room_bytes = 16 + 12 * room_blocks + 12 * room_stored + 8 * (room_values + room_scalars)

-- an entry of the contents is three u32: row, column, offset
abbrev pub width : ℕ
width = 12

-- ---- what a sheet holds

module _ (s : List ℕ) where
  -- the rows, columns and offsets of A's stored blocks, by column then row
  abbrev pub rows_of : List ℕ
  rows_of = entry_rows width s

  abbrev pub columns_of : List ℕ
  columns_of = entry_columns width s

  abbrev pub offsets_of : List ℕ
  offsets_of = entry_offsets width s

  -- where each column of A begins in the table of rows, and where the last one ends
  abbrev pub starts_of : List ℕ
  starts_of = starts_from columns_of (blocks_of s)

  -- how many numbers the bodies have, and how many scalars the blocks
  abbrev pub value_count : ℕ
  value_count = areas (dims_of s) starts_of rows_of

  abbrev pub scalars_of : ℕ
  scalars_of = scalar_count (dims_of s)

  -- the bodies back to back, then the right side
  abbrev pub values_of : List Float
  values_of = f64s s (bodies_at width s) value_count

  abbrev pub right_side_of : List Float
  right_side_of = f64s s (bodies_at width s + 8 * value_count) scalars_of

  -- the night's system
  abbrev pub system_of : System
  system_of = record { dims = dims_of s; starts = starts_of; rows = rows_of; values = values_of; perm = perm_of s; late = late_of s; tol = tol_of s }

-- ---- the verdict

-- 15: the sheet has not the bytes that it must have so far
abbrev pub cut_check : (need : ℕ) → List ℕ → Told
cut_check need s = cond (nat_lt (length s) need) bad_sheet done

-- a sheet shorter than 16 bytes is 15; 16 for n or m; 15 for a cut table; then its tables
abbrev pub sheet_checks : List ℕ → List Told
sheet_checks s =
    cut_check 16 s
    ∷ room_check room_blocks (blocks_of s)
    ∷ room_check room_stored (stored_of s)
    ∷ cut_check (bodies_at width s) s
    ∷ table_checks (dims_of s) (late_of s) (perm_of s) (rows_of s) (columns_of s) (offsets_of s) (tol_of s) (bodies_at width s) (length s)

-- done, or the first of them that refuses. What comes later, 16 for L after the plan and 13 or 14 last, is not the sheet's
unfoldable pub sheet_verdict : List ℕ → Told
sheet_verdict s = verdict (sheet_checks s)
