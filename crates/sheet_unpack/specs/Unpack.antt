-- What unpacking a sheet goes by, and what it leaves. Assumes nothing.
use Rattle.std.specs.Prelude.{◌≡◌, ℕ, ◌+◌, ◌*◌, ◌≤◌, List, ◌++◌, length, drop}
use Rattle.std.specs.Prelude.{Float}
use Rattle.refusal.specs.Refusal.{Told}
use Rattle.sheet_bytes.specs.Layout.{blocks_of, stored_of, tol_of, dims_of, late_of, perm_of, bodies_at}
use Rattle.sheet_check.specs.Checks.{room_blocks, room_stored, table_checks, told_after}
use Rattle.sheet_check.specs.Sheet.{width, rows_of, columns_of, offsets_of, starts_of, value_count, scalars_of, values_of, right_side_of}
use Rattle.sheet_check.specs.Sound.{SheetSound}
use Rattle.sheet_check.specs.declared.cores.Night.{Night}
use Rattle.sheet_unpack.specs.declared.Tables.{Tables}

-- the head has been read, there is room for n blocks and m stored ones, and no table is cut
pub record Headed (s : List ℕ) (n m : ℕ) : Type 0 where
  pub blocks : n ≡ blocks_of s
  pub stored : m ≡ stored_of s
  pub few_blocks : n ≤ room_blocks
  pub few_stored : m ≤ room_stored
  pub whole : 16 + 12 * n + 12 * m ≤ length s

-- the sheet has passed, and the night's counts are its own
pub record Kept (s : List ℕ) (night : Night) : Type 0 where
  pub sound : SheetSound s
  pub blocks : night.blocks ≡ blocks_of s
  pub stored : night.stored ≡ stored_of s
  pub values : night.values ≡ value_count s
  pub scalars : night.scalars ≡ scalars_of s

-- each table is still the one that was lent
pub record SameTables (o p : Tables) : Type 0 where
  pub dims : p.dims.ghost_name ≡ o.dims.ghost_name
  pub late : p.late.ghost_name ≡ o.late.ghost_name
  pub perm : p.perm.ghost_name ≡ o.perm.ghost_name
  pub starts : p.starts.ghost_name ≡ o.starts.ghost_name
  pub rows : p.rows.ghost_name ≡ o.rows.ghost_name
  pub values : p.values.ghost_name ≡ o.values.ghost_name
  pub right : p.right.ghost_name ≡ o.right.ghost_name

-- what is told of the tables, once the head has passed
abbrev pub tables_told : List ℕ → Told
tables_told s =
    told_after (dims_of s) (late_of s) (perm_of s) (rows_of s) (columns_of s) (offsets_of s) (tol_of s) (bodies_at width s) (length s)
    (table_checks (dims_of s) (late_of s) (perm_of s) (rows_of s) (columns_of s) (offsets_of s) (tol_of s) (bodies_at width s) (length s))

-- the tables of a sheet that has passed, unpacked into the first places of what is lent
pub record Unpacks (s : List ℕ) (dims late perm starts rows : List ℕ) (values right : List Float) (dims' late' perm' starts' rows' : List ℕ) (values' right' : List Float) : Type 0 where
  pub of_dims : dims' ≡ dims_of s ++ drop (blocks_of s) dims
  pub of_late : late' ≡ late_of s ++ drop (blocks_of s) late
  pub of_perm : perm' ≡ perm_of s ++ drop (blocks_of s) perm
  pub of_starts : starts' ≡ starts_of s ++ drop (blocks_of s + 1) starts
  pub of_rows : rows' ≡ rows_of s ++ drop (stored_of s) rows
  pub of_values : values' ≡ values_of s ++ drop (value_count s) values
  pub of_right : right' ≡ right_side_of s ++ drop (scalars_of s) right
