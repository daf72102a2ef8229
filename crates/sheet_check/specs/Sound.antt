-- What a sheet that passes says, for whoever works with it. proofs/Sound.antt shows it from the verdict. Assumes nothing.
use Rattle.std.specs.Prelude.{◌≡◌, ℕ, ◌+◌, ◌*◌, ◌≤◌, List, length}
use Rattle.refusal.specs.Refusal.{done}
use Rattle.tables.specs.Verdict.{system_verdict}
use Rattle.sheet_bytes.specs.Layout.{blocks_of, stored_of, tol_of, dims_of, late_of, perm_of, bodies_at}
use Rattle.sheet_check.specs.Checks.{room_blocks, room_stored, room_scalars, room_values}
use Rattle.sheet_check.specs.Sheet.{width, rows_of, starts_of, value_count, scalars_of, values_of, right_side_of}

pub record SheetSound (s : List ℕ) : Type 0 where
  -- within the program's room
  pub blocks : blocks_of s ≤ room_blocks
  pub stored : stored_of s ≤ room_stored
  pub scalars : scalars_of s ≤ room_scalars
  pub values : value_count s ≤ room_values
  -- 1 to 10 pass on the night's system
  pub system : system_verdict (dims_of s) (starts_of s) (rows_of s) (values_of s) (perm_of s) (late_of s) (tol_of s) ≡ done
  -- how long each table is
  pub of_dims : length (dims_of s) ≡ blocks_of s
  pub of_late : length (late_of s) ≡ blocks_of s
  pub of_perm : length (perm_of s) ≡ blocks_of s
  pub of_starts : length (starts_of s) ≡ blocks_of s + 1
  pub of_rows : length (rows_of s) ≡ stored_of s
  pub of_values : length (values_of s) ≡ value_count s
  pub of_right : length (right_side_of s) ≡ scalars_of s
  -- the bytes end behind the right side
  pub ends : length s ≡ bodies_at width s + 8 * (value_count s + scalars_of s)
