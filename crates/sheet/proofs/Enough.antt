-- How many bytes of a sheet decide: one more than the longest good sheet has. Assumes nothing.
use Rattle.std.specs.Prelude.{◌≡◌, ℕ, zero, suc, ◌+◌, ◌*◌, ◌<◌, ◌≤◌, false, cond, eqb, List, [], ◌∷◌, ◌++◌, length, take, drop}
use mathlib.Core.Logic.{⊎_elim}
use mathlib.Core.Path.{refl, sym, ap, ap₂, ◌∙◌}
use native.Mathlib.Omega.{arith}
use borrow.Author.Tests.{ne_eqb}
use lib.Ieee.{Float}
use lib.Seq.{take_all, length-take-le}
use Rattle.refusal.specs.Refusal.{Told, tells, done, refuses, verdict, first_of, verdict_after, bad_sheet, no_room}
use Rattle.refusal.proofs.Laws.{all_pass}
use Rattle.tables.specs.Verdict.{from_diagonal, dims_check, rows_check, order_check, perm_check, late_check}
use Rattle.tables.proofs.SearchLaws.{lt-or-ge}
use Rattle.tables.proofs.CheckLaws.{stops, goes}
use Rattle.refusal.specs.Check.{tolerance_check}
use Rattle.scalars.specs.Scalars.{scalar_count}
use Rattle.contents.specs.Contents.{columns_check, offsets_check}
use Rattle.sheet_bytes.specs.Layout.{u32s, blocks_of, stored_of, tol_of, dims_of, late_of, perm_of, contents_at, bodies_at}
use Rattle.sheet_bytes.proofs.Laws.{u32-take, f64-take, u32s-take}
use Rattle.sheet_check.specs.Checks.{room_blocks, room_stored, room_scalars, room_values, room_check, starts_here, values_here, table_checks}
use Rattle.sheet_check.specs.Sheet.{room_bytes, width, rows_of, columns_of, offsets_of, sheet_checks, sheet_verdict}
use Rattle.sheet_check.proofs.Sound.{sheet-sound}
use Rattle.sheet_check.proofs.Laws.{room-stop, room_go, room-passes, cut-go}

-- ---- the last check alone differs

first-same : (v a b : Told) → (refuses v ≡ false → a ≡ b) → first_of v a ≡ first_of v b
first-same (tells zero is xs) a b h = h refl
first-same (tells (suc n) is xs) a b h = refl

last-same : (v : Told) (checks : List Told) (a b : Told) → (refuses (verdict_after v checks) ≡ false → a ≡ b) → verdict_after v (checks ++ (a ∷ [])) ≡ verdict_after v (checks ++ (b ∷ []))
last-same v [] a b h = first-same v a b h
last-same v (check ∷ checks) a b h = last-same (first_of v check) checks a b h

module _ (dims late perm rows columns offsets : List ℕ) (tol : Float) (bodies size size' : ℕ) (near : bodies ≤ 16 + 12 * room_blocks + 12 * room_stored) (long : room_bytes < size) (long' : room_bytes < size') where
  -- all checks but that of the end
  front : List Told
  front =
      dims_check dims
      ∷ columns_check columns (length dims)
      ∷ rows_check from_diagonal (starts_here dims late perm rows columns offsets tol bodies size) rows (length dims)
      ∷ order_check (starts_here dims late perm rows columns offsets tol bodies size) rows (length dims)
      ∷ perm_check perm (length dims)
      ∷ late_check late (length dims)
      ∷ tolerance_check tol
      ∷ room_check room_scalars (scalar_count dims)
      ∷ room_check room_values (values_here dims late perm rows columns offsets tol bodies size)
      ∷ offsets_check dims rows columns offsets bodies
      ∷ []

  -- a sheet that fits the room ends before either
  too_long : (z : ℕ) → room_bytes < z → refuses (verdict front) ≡ false → cond (eqb z (bodies + 8 * (values_here dims late perm rows columns offsets tol bodies size + scalar_count dims))) done bad_sheet ≡ bad_sheet
  unfolding front
  too_long z l e =
      let p = all_pass front e in
      let k = room-passes room_scalars (scalar_count dims) p.1.1.1.1.1.1.1.0 in
      let v = room-passes room_values (values_here dims late perm rows columns offsets tol bodies size) p.1.1.1.1.1.1.1.1.0 in
      rw (ne_eqb z (bodies + 8 * (values_here dims late perm rows columns offsets tol bodies size + scalar_count dims)) (λ q. omega arith))

  size_same : verdict (table_checks dims late perm rows columns offsets tol bodies size) ≡ verdict (table_checks dims late perm rows columns offsets tol bodies size')
  unfolding front
  size_same = last-same done front _ _ (λ e. too_long size long e ∙ sym (too_long size' long' e))

-- ---- the tables of the first bytes

tables-same : {dims dims' late late' perm perm' rows rows' columns columns' offsets offsets' : List ℕ} {tol tol' : Float} {bodies bodies' : ℕ} (size : ℕ) → dims ≡ dims' → late ≡ late' → perm ≡ perm' → rows ≡ rows' → columns ≡ columns' → offsets ≡ offsets' → tol ≡ tol' → bodies ≡ bodies'
    → verdict (table_checks dims late perm rows columns offsets tol bodies size) ≡ verdict (table_checks dims' late' perm' rows' columns' offsets' tol' bodies' size)
tables-same size a b c d e f g h = rw (a, b, c, d, e, f, g, h)

module _ (s : List ℕ) (l : room_bytes < length s) where
  abbrev cut : List ℕ
  cut = take (room_bytes + 1) s

  length_cut : length cut ≡ room_bytes + 1
  length_cut = length-take-le (room_bytes + 1) s (omega arith)

  blocks-cut : blocks_of cut ≡ blocks_of s
  blocks-cut = u32-take (room_bytes + 1) s 0 (omega arith)

  stored_cut : stored_of cut ≡ stored_of s
  stored_cut = u32-take (room_bytes + 1) s 4 (omega arith)

  module _ (n : blocks_of s ≤ room_blocks) (m : stored_of s ≤ room_stored) where
    bodies-cut : bodies_at width cut ≡ bodies_at width s
    bodies-cut = omega (arith, blocks-cut, stored_cut)

    dims-cut : dims_of cut ≡ dims_of s
    dims-cut = ap (u32s cut 16 8) blocks-cut ∙ u32s-take (room_bytes + 1) s 16 8 (blocks_of s) (λ k h. omega arith)

    late-cut : late_of cut ≡ late_of s
    late-cut = ap (u32s cut 20 8) blocks-cut ∙ u32s-take (room_bytes + 1) s 20 8 (blocks_of s) (λ k h. omega arith)

    perm-cut : perm_of cut ≡ perm_of s
    perm-cut = ap (λ (k : ℕ). u32s cut (16 + 8 * k) 4 k) blocks-cut ∙ u32s-take (room_bytes + 1) s (16 + 8 * blocks_of s) 4 (blocks_of s) (λ k h. omega arith)

    rows_cut : rows_of cut ≡ rows_of s
    rows_cut = ap₂ (λ (k j : ℕ). u32s cut (16 + 12 * k) 12 j) blocks-cut stored_cut ∙ u32s-take (room_bytes + 1) s (contents_at s) 12 (stored_of s) (λ k h. omega arith)

    columns-cut : columns_of cut ≡ columns_of s
    columns-cut = ap₂ (λ (k j : ℕ). u32s cut (16 + 12 * k + 4) 12 j) blocks-cut stored_cut ∙ u32s-take (room_bytes + 1) s (contents_at s + 4) 12 (stored_of s) (λ k h. omega arith)

    offsets-cut : offsets_of cut ≡ offsets_of s
    offsets-cut = ap₂ (λ (k j : ℕ). u32s cut (16 + 12 * k + 8) 12 j) blocks-cut stored_cut ∙ u32s-take (room_bytes + 1) s (contents_at s + 8) 12 (stored_of s) (λ k h. omega arith)

    behind-head : verdict (drop 4 (sheet_checks cut)) ≡ verdict (drop 4 (sheet_checks s))
    behind-head =
        tables-same (length cut) dims-cut late-cut perm-cut rows_cut columns-cut offsets-cut (f64-take (room_bytes + 1) s 8 (omega arith)) bodies-cut
        ∙ size_same (dims_of s) (late_of s) (perm_of s) (rows_of s) (columns_of s) (offsets_of s) (tol_of s) (bodies_at width s) (length cut) (length s) (omega arith) (omega (arith, length_cut)) l

    whole-head : (t : List ℕ) → blocks_of t ≤ room_blocks → stored_of t ≤ room_stored → room_bytes < length t → verdict (sheet_checks t) ≡ verdict (drop 4 (sheet_checks t))
    whole-head t a b z =
        sym (goes (drop 4 (sheet_checks t)) (cut-go (bodies_at width t) t (omega arith)) ∙ goes (drop 3 (sheet_checks t)) (room_go room_stored (stored_of t) b) ∙ goes (drop 2 (sheet_checks t)) (room_go room_blocks (blocks_of t) a) ∙ goes (drop 1 (sheet_checks t)) (cut-go 16 t (omega arith)))

    head-fits : verdict (sheet_checks cut) ≡ verdict (sheet_checks s)
    head-fits = whole-head cut (omega (arith, blocks-cut)) (omega (arith, stored_cut)) (omega (arith, length_cut)) ∙ behind-head ∙ sym (whole-head s n m l)

  -- too many blocks, or too many stored ones
  too_many : (t : List ℕ) → room_bytes < length t → room_blocks < blocks_of t → no_room ≡ verdict (sheet_checks t)
  too_many t z h = stops (drop 2 (sheet_checks t)) (room-stop room_blocks (blocks_of t) h) refl ∙ goes (drop 1 (sheet_checks t)) (cut-go 16 t (omega arith))

  too-stored : (t : List ℕ) → room_bytes < length t → blocks_of t ≤ room_blocks → room_stored < stored_of t → no_room ≡ verdict (sheet_checks t)
  too-stored t z b h = stops (drop 3 (sheet_checks t)) (room-stop room_stored (stored_of t) h) refl ∙ goes (drop 2 (sheet_checks t)) (room_go room_blocks (blocks_of t) b) ∙ goes (drop 1 (sheet_checks t)) (cut-go 16 t (omega arith))

  long_same : verdict (sheet_checks cut) ≡ verdict (sheet_checks s)
  long_same =
      ⊎_elim
      (λ (h : room_blocks < blocks_of s). sym (too_many cut (omega (arith, length_cut)) (omega (arith, blocks-cut))) ∙ too_many s l h)
      (λ (n : blocks_of s ≤ room_blocks).
      ⊎_elim
      (λ (h : room_stored < stored_of s). sym (too-stored cut (omega (arith, length_cut)) (omega (arith, blocks-cut)) (omega (arith, stored_cut))) ∙ too-stored s l n h)
      (λ (m : stored_of s ≤ room_stored). head-fits n m)
      (lt-or-ge room_stored (stored_of s)))
      (lt-or-ge room_blocks (blocks_of s))

-- the verdict on the first 50,705 bytes is the verdict on all
pub enough : (s : List ℕ) → sheet_verdict (take (room_bytes + 1) s) ≡ sheet_verdict s
unfolding sheet_verdict
enough s =
    ⊎_elim (λ (l : room_bytes < length s). long_same s l) (λ (l : length s ≤ room_bytes). ap (λ (t : List ℕ). verdict (sheet_checks t)) (take_all (room_bytes + 1) s (omega arith))) (lt-or-ge room_bytes (length s))

-- that many
is-50705 : room_bytes + 1 ≡ 50705
is-50705 = refl

-- and of a sheet that passes they are all
pub whole : (s : List ℕ) → refuses (sheet_verdict s) ≡ false → take (room_bytes + 1) s ≡ s
whole s e =
    let z = sheet-sound s e in
    take_all (room_bytes + 1) s (omega (arith, z.ends, z.blocks, z.stored, z.scalars, z.values))
