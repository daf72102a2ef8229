-- What is told of a sheet's head, and what an outcome leaves in what is lent. Assumes nothing.
use Rattle.std.specs.Prelude.{◌≡◌, ℕ, ◌+◌, ◌<◌, ◌≤◌, Bool, true, false, List, [], ◌∷◌, length, drop, Result, Ok}
use mathlib.Core.Path.{refl, sym, ap, ap₂, ◌∙◌}
use lib.Ieee.{Float}
use Rattle.sheet_bytes.specs.Layout.{blocks_of, stored_of, tol_of, dims_of, late_of, perm_of, contents_at, bodies_at}
use Rattle.sheet_bytes.proofs.Laws.{length-u32s}
use Rattle.refusal.specs.Refusal.{Told, accepted, refuses, verdict, first_of, bad_sheet, no_room}
use Rattle.refusal.proofs.Laws.{first_passes, both-pass}
use Rattle.tables.specs.Verdict.{areas}
use Rattle.contents.specs.Contents.{starts_from}
use native.Mathlib.Omega.{arith}
use Rattle.sheet_check.specs.Checks.{room_blocks, room_stored, room_values, room_scalars, night_told}
use Rattle.sheet_check.specs.Sheet.{width, rows_of, columns_of, offsets_of, value_count, scalars_of, sheet_checks, sheet_verdict, starts_of, values_of, right_side_of}
use Rattle.sheet_check.specs.Outcome.{told, sheet_told}
use Rattle.sheet_check.specs.declared.cores.Night.{Night}
use Rattle.sheet_check.specs.declared.cores.SheetError.{SheetError}
use Rattle.sheet_check.proofs.Laws.{told-stops, told-goes, room-stop, room_go, cut-stop, cut-go}
use Rattle.sheet_check.proofs.Sound.{sheet-sound}
use Rattle.sheet_unpack.specs.Unpack.{Kept, Unpacks, tables_told}
use Rattle.sheet_unpack.proofs.Laws.{part_of}
use Rattle.sheet.specs.Reads.{Reads, Holds}

-- ---- the head of a sheet: what is told where one of its tests fails, and where all hold

module _ (s : List ℕ) where
  tables-night : night_told (dims_of s) (late_of s) (perm_of s) (rows_of s) (columns_of s) (offsets_of s) (tol_of s) (bodies_at width s) (length s) ≡ accepted (blocks_of s ∷ stored_of s ∷ value_count s ∷ scalars_of s ∷ []) (tol_of s ∷ [])
  tables-night = ap₂ (λ (k j : ℕ). accepted (k ∷ j ∷ areas (dims_of s) (starts_from (columns_of s) k) (rows_of s) ∷ scalars_of s ∷ []) (tol_of s ∷ [])) (length-u32s s 16 8 (blocks_of s)) (length-u32s s (contents_at s) width (stored_of s))

  pub head-short : length s < 16 → bad_sheet ≡ sheet_told s
  unfolding sheet_verdict
  head-short h = told-stops _ (drop 1 (sheet_checks s)) (cut-stop 16 s h) refl

  module _ (h1 : 16 ≤ length s) where
    past1 : first_of (verdict (drop 1 (sheet_checks s))) (accepted (blocks_of s ∷ stored_of s ∷ value_count s ∷ scalars_of s ∷ []) (tol_of s ∷ [])) ≡ sheet_told s
    unfolding sheet_verdict
    past1 = told-goes _ (drop 1 (sheet_checks s)) (cut-go 16 s h1)

    pub head-blocks : room_blocks < blocks_of s → no_room ≡ sheet_told s
    head-blocks h = told-stops _ (drop 2 (sheet_checks s)) (room-stop room_blocks (blocks_of s) h) refl ∙ past1

    module _ (h2 : blocks_of s ≤ room_blocks) where
      past2 : first_of (verdict (drop 2 (sheet_checks s))) (accepted (blocks_of s ∷ stored_of s ∷ value_count s ∷ scalars_of s ∷ []) (tol_of s ∷ [])) ≡ sheet_told s
      past2 = told-goes _ (drop 2 (sheet_checks s)) (room_go room_blocks (blocks_of s) h2) ∙ past1

      pub head-stored : room_stored < stored_of s → no_room ≡ sheet_told s
      head-stored h = told-stops _ (drop 3 (sheet_checks s)) (room-stop room_stored (stored_of s) h) refl ∙ past2

      module _ (h3 : stored_of s ≤ room_stored) where
        past3 : first_of (verdict (drop 3 (sheet_checks s))) (accepted (blocks_of s ∷ stored_of s ∷ value_count s ∷ scalars_of s ∷ []) (tol_of s ∷ [])) ≡ sheet_told s
        past3 = told-goes _ (drop 3 (sheet_checks s)) (room_go room_stored (stored_of s) h3) ∙ past2

        pub head-cut : length s < bodies_at width s → bad_sheet ≡ sheet_told s
        head-cut h = told-stops _ (drop 4 (sheet_checks s)) (cut-stop (bodies_at width s) s h) refl ∙ past3

        pub head_passed : bodies_at width s ≤ length s → tables_told s ≡ sheet_told s
        head_passed h = ap (first_of (verdict (drop 4 (sheet_checks s)))) tables-night ∙ told-goes _ (drop 4 (sheet_checks s)) (cut-go (bodies_at width s) s h) ∙ past3

-- ---- an outcome, and what is lent

refused-by : (v next : Told) → refuses next ≡ false → refuses (first_of v next) ≡ true → refuses v ≡ true
refused-by v next n r = by-case (refuses v) refl
  where
    by-case : (b : Bool) → refuses v ≡ b → refuses v ≡ true
    by-case true e = e
    by-case false e = let z : true ≡ false = sym r ∙ sym (ap refuses (first_passes v next e)) ∙ n in e ∙ sym z

module _ (s : List ℕ) (r : Result Night SheetError) (e : told r ≡ sheet_told s) where
  -- a refusal leaves all as it was
  pub reads-refused : refuses (told r) ≡ true → {dims late perm starts rows : List ℕ} {values right : List Float} → Reads s dims late perm starts rows values right r dims late perm starts rows values right
  reads-refused t =
      let v : refuses (sheet_verdict s) ≡ true = refused-by (sheet_verdict s) _ refl (sym (ap refuses e) ∙ t) in
      record { outcome = e; of_dims = rw v; of_late = rw v; of_perm = rw v; of_starts = rw v; of_rows = rw v; of_values = rw v; of_right = rw v }

module _ (s : List ℕ) (w : Night) (e : told (Ok w) ≡ sheet_told s) where
  passes : refuses (sheet_verdict s) ≡ false
  passes = (both-pass (sheet_verdict s) _ (sym (ap refuses e))).0

  counts : accepted (w.blocks ∷ w.stored ∷ w.values ∷ w.scalars ∷ []) (w.tol ∷ []) ≡ accepted (blocks_of s ∷ stored_of s ∷ value_count s ∷ scalars_of s ∷ []) (tol_of s ∷ [])
  counts = e ∙ sym (first_passes (sheet_verdict s) _ passes)

  -- the counts of an accepted sheet are its own
  pub kept : Kept s w
  kept = let c = counts in record { sound = sheet-sound s passes; blocks = cc; stored = cc; values = cc; scalars = cc }

  -- they are within the program's room
  pub within-room : (w.blocks ≤ room_blocks) × (w.stored ≤ room_stored) × (w.values ≤ room_values) × (w.scalars ≤ room_scalars)
  within-room =
      let k = kept in
      let z = k.sound in
      (omega (arith, k.blocks, z.blocks), omega (arith, k.stored, z.stored), omega (arith, k.values, z.values), omega (arith, k.scalars, z.scalars))

  -- and its tables stand in what is lent
  pub reads_kept : {dims late perm starts rows dims' late' perm' starts' rows' : List ℕ} {values right values' right' : List Float} → Unpacks s dims late perm starts rows values right dims' late' perm' starts' rows' values' right' → Reads s dims late perm starts rows values right (Ok w) dims' late' perm' starts' rows' values' right'
  reads_kept u =
      let v = passes in
      record { outcome = e; of_dims = rw v u.of_dims; of_late = rw v u.of_late; of_perm = rw v u.of_perm; of_starts = rw v u.of_starts; of_rows = rw v u.of_rows; of_values = rw v u.of_values; of_right = rw v u.of_right }

  -- so whoever reads the first places of what was lent finds them there
  pub reads_hold : {dims late perm starts rows dims' late' perm' starts' rows' : List ℕ} {values right values' right' : List Float} → Reads s dims late perm starts rows values right (Ok w) dims' late' perm' starts' rows' values' right' → Holds s w dims' late' perm' starts' rows' values' right'
  reads_hold r =
      let v = passes in
      let c = counts in
      let k = kept in
      let z = k.sound in
      record {
        sound = z;
        kept = k;
        tol = cc;
        of_dims = part_of w.blocks (dims_of s) _ _ (rw v at r.of_dims) (z.of_dims ∙ sym k.blocks);
        of_late = part_of w.blocks (late_of s) _ _ (rw v at r.of_late) (z.of_late ∙ sym k.blocks);
        of_perm = part_of w.blocks (perm_of s) _ _ (rw v at r.of_perm) (z.of_perm ∙ sym k.blocks);
        of_starts = part_of (w.blocks + 1) (starts_of s) _ _ (rw v at r.of_starts) (z.of_starts ∙ ap (λ (n : ℕ). n + 1) (sym k.blocks));
        of_rows = part_of w.stored (rows_of s) _ _ (rw v at r.of_rows) (z.of_rows ∙ sym k.stored);
        of_values = part_of w.values (values_of s) _ _ (rw v at r.of_values) (z.of_values ∙ sym k.values);
        of_right = part_of w.scalars (right_side_of s) _ _ (rw v at r.of_right) (z.of_right ∙ sym k.scalars);
      }
