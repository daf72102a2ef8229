-- A sheet that passes is sound: no check refuses, so its tables pass 1 to 10 of a night's system, and it fits the program's room.
-- Assumes nothing.
use Rattle.std.specs.Prelude.{◌≡◌, ℕ, ◌+◌, ◌*◌, ◌≤◌, false, List, [], ◌∷◌, length}
use mathlib.Core.Path.{refl, sym, ap, subst, ◌∙◌}
use native.Mathlib.Omega.{arith}
use lib.Ieee.{Float}
use Rattle.refusal.specs.Refusal.{Told, done, refuses, verdict}
use Rattle.refusal.proofs.Laws.{all_pass, pass-after, verdict-goes}
use Rattle.tables.specs.Verdict.{areas, system_checks, system_verdict, from_diagonal}
use Rattle.tables.specs.Sound.{Ordered}
use Rattle.tables.proofs.CheckLaws.{blocks-go, dims-go, dims-pass, stored-go, rows-go, rows_pass, order-go, order-pass, values-go, perm-go, perm-pass, late-go, late-pass, tolerance-go, tolerance-pass}
use Rattle.tables.proofs.PassLaws.{starts-done}
use Rattle.scalars.specs.Scalars.{scalar_count}
use Rattle.sheet_bytes.specs.Layout.{blocks_of, stored_of, tol_of, dims_of, late_of, perm_of, contents_at, bodies_at}
use Rattle.sheet_bytes.proofs.Laws.{length-u32s, length-f64s}
use Rattle.contents.specs.Contents.{starts_from}
use Rattle.contents.proofs.Laws.{columns-pass, sorted_of, starts-ordered, length-starts}
use Rattle.sheet_check.specs.Checks.{room_scalars, room_values, table_checks, values_here, room_blocks, room_stored}
use Rattle.sheet_check.specs.Sheet.{width, rows_of, columns_of, offsets_of, starts_of, value_count, scalars_of, values_of, sheet_checks, sheet_verdict}
use Rattle.sheet_check.specs.Sound.{SheetSound}
use Rattle.sheet_check.proofs.Laws.{room-passes, end-passes}

-- a list of checks that all pass
AllDone : List Told → Type 0
AllDone [] = Unit {0}
AllDone (check ∷ checks) = (check ≡ done) × AllDone checks

all_done : (checks : List Told) → AllDone checks → verdict checks ≡ done
unfolding AllDone
all_done [] d = refl
all_done (check ∷ checks) d = verdict-goes check checks d.0 ∙ all_done checks d.1

-- ---- tables that pass

module _ (dims late perm rows columns offsets : List ℕ) (tol : Float) (bodies size : ℕ) (as_rows : length rows ≡ length columns) (few : length dims ≤ 4096) (stored : length rows ≤ 65536)
    (e : refuses (verdict (table_checks dims late perm rows columns offsets tol bodies size)) ≡ false) where
  -- they pass 1 to 10 of a night's system
  system-done : (values : List Float) → length values ≡ values_here dims late perm rows columns offsets tol bodies size → system_verdict dims (starts_from columns (length dims)) rows values perm late tol ≡ done
  unfolding system_verdict AllDone
  system-done values l =
      let n = length dims in
      let starts = starts_from columns n in
      let p = all_pass (table_checks dims late perm rows columns offsets tol bodies size) e in
      let o : Ordered starts n (length rows) = subst (Ordered starts n) (sym as_rows) (starts-ordered columns n (sorted_of columns n (columns-pass columns n p.1.0))) in
      all_done (system_checks dims starts rows values perm late tol) (
        blocks-go n few,
        (
          dims-go dims (dims-pass dims p.0),
          (
            starts-done starts n (length rows) o,
            (
              stored-go (length rows) stored,
              (
                rows-go from_diagonal starts rows n (rows_pass from_diagonal starts rows n p.1.1.0),
                (
                  order-go starts rows n (order-pass starts rows n p.1.1.1.0),
                  (
                    values-go dims starts rows (length values) _ refl l,
                    (
                      perm-go perm n (perm-pass perm n p.1.1.1.1.0),
                      (
                        late-go late n (late-pass late n p.1.1.1.1.1.0),
                        (
                          tolerance-go tol (tolerance-pass tol p.1.1.1.1.1.1.0),
                          tt,
                        ),
                      ),
                    ),
                  ),
                ),
              ),
            ),
          ),
        ),
      )

  -- and fit the room
  scalars-fit : scalar_count dims ≤ room_scalars
  scalars-fit = room-passes room_scalars _ (all_pass (table_checks dims late perm rows columns offsets tol bodies size) e).1.1.1.1.1.1.1.0

  values-fit : values_here dims late perm rows columns offsets tol bodies size ≤ room_values
  values-fit = room-passes room_values _ (all_pass (table_checks dims late perm rows columns offsets tol bodies size) e).1.1.1.1.1.1.1.1.0

  ends_there : size ≡ bodies + 8 * (values_here dims late perm rows columns offsets tol bodies size + scalar_count dims)
  ends_there = end-passes size _ (all_pass (table_checks dims late perm rows columns offsets tol bodies size) e).1.1.1.1.1.1.1.1.1.1.0

-- ---- a sheet that passes

module _ (s : List ℕ) where
  blocks-length : length (dims_of s) ≡ blocks_of s
  blocks-length = length-u32s s 16 8 (blocks_of s)

  -- the tables' checks are those behind the head
  tables-pass : refuses (sheet_verdict s) ≡ false → refuses (verdict (table_checks (dims_of s) (late_of s) (perm_of s) (rows_of s) (columns_of s) (offsets_of s) (tol_of s) (bodies_at width s) (length s))) ≡ false
  unfolding sheet_verdict
  tables-pass e = let p = all_pass (sheet_checks s) e in pass-after done (table_checks (dims_of s) (late_of s) (perm_of s) (rows_of s) (columns_of s) (offsets_of s) (tol_of s) (bodies_at width s) (length s)) refl p.1.1.1.1

  pub sheet-sound : refuses (sheet_verdict s) ≡ false → SheetSound s
  unfolding sheet_verdict
  sheet-sound e =
      let p = all_pass (sheet_checks s) e in
      let few = room-passes room_blocks (blocks_of s) p.1.0 in
      let stored = room-passes room_stored (stored_of s) p.1.1.0 in
      let rl = length-u32s s (contents_at s) width (stored_of s) in
      let cl = length-u32s s (contents_at s + 4) width (stored_of s) in
      let t = tables-pass e in
      let same : starts_from (columns_of s) (length (dims_of s)) ≡ starts_of s = ap (starts_from (columns_of s)) blocks-length in
      let count : areas (dims_of s) (starts_from (columns_of s) (length (dims_of s))) (rows_of s) ≡ value_count s = ap (λ (l : List ℕ). areas (dims_of s) l (rows_of s)) same in
      let vl = length-f64s s (bodies_at width s) (value_count s) in
      let done' = system-done (dims_of s) (late_of s) (perm_of s) (rows_of s) (columns_of s) (offsets_of s) (tol_of s) (bodies_at width s) (length s) (rl ∙ sym cl) (omega (arith, blocks-length)) (omega (arith, rl)) t (values_of s) (vl ∙ sym count) in
      record {
        blocks = few;
        stored = stored;
        scalars = scalars-fit (dims_of s) (late_of s) (perm_of s) (rows_of s) (columns_of s) (offsets_of s) (tol_of s) (bodies_at width s) (length s) (rl ∙ sym cl) (omega (arith, blocks-length)) (omega (arith, rl)) t;
        values = omega (arith, count, values-fit (dims_of s) (late_of s) (perm_of s) (rows_of s) (columns_of s) (offsets_of s) (tol_of s) (bodies_at width s) (length s) (rl ∙ sym cl) (omega (arith, blocks-length)) (omega (arith, rl)) t);
        system = subst (λ (l : List ℕ). system_verdict (dims_of s) l (rows_of s) (values_of s) (perm_of s) (late_of s) (tol_of s) ≡ done) same done';
        of_dims = blocks-length;
        of_late = length-u32s s 20 8 (blocks_of s);
        of_perm = length-u32s s (16 + 8 * blocks_of s) 4 (blocks_of s);
        of_starts = length-starts (columns_of s) (blocks_of s);
        of_rows = rl;
        of_values = vl;
        of_right = length-f64s s (bodies_at width s + 8 * value_count s) (scalars_of s);
        ends = ends_there (dims_of s) (late_of s) (perm_of s) (rows_of s) (columns_of s) (offsets_of s) (tol_of s) (bodies_at width s) (length s) (rl ∙ sym cl) (omega (arith, blocks-length)) (omega (arith, rl)) t ∙ ap (λ (v : ℕ). bodies_at width s + 8 * (v + scalars_of s)) count;
      }
