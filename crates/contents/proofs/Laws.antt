-- The laws of a sheet's contents.
--     columns-stop, columns-go, columns-pass   what 3 says where its search finds a place, and where it finds none
--     offsets-stop, offsets-go                  the same of 15 for the offsets
--     sorted_of                                 columns that pass do not fall and are below n
--     length-starts, starts-at, starts-filled   the starts: how many, the entries, and a list with those entries
--     starts-ordered                            the starts of columns below n are in order
--     column-of                                 the column of a place, read by the starts, is the entry's own
--     start-from, area-is, area_small, offset-hits, offset-misses   what the loops that fill the starts and search the offsets go by
-- Assumes nothing.
use Rattle.std.specs.Prelude.{◌≡◌, ℕ, zero, suc, ◌+◌, ◌-◌, ◌*◌, ◌<◌, ◌≤◌, Bool, true, false, cond, ltb, leb, List, map, length, get_or, Some, None}
use Prim.Native.Nat.{zero-le}
use mathlib.Core.Logic.{⊎_elim}
use mathlib.Core.Path.{refl, sym, ap, ◌∙◌}
use native.Mathlib.Omega.{arith}
use borrow.Author.Tests.{lt-ltb, le-ltb, eq-eqb, ne_eqb, ltb-true, ltb-false, leb-true}
use lib.ListN.{length-map, get_or-map}
use lib.Seq.{ext_get_or}
use Rattle.graph.specs.Sets.{from}
use Rattle.refusal.specs.Refusal.{done, refuses, bad_starts, bad_sheet}
use Rattle.buckets.proofs.Lists.{get_or_any}
use Rattle.order.proofs.Laws.{length_from, get_or-from}
use Rattle.tables.specs.Search.{first, first_from, fault}
use Rattle.tables.specs.Verdict.{at, column_of, block_area, area_at}
use Rattle.tables.specs.Sound.{Ordered}
use Rattle.tables.proofs.Bools.{and_left, and_right}
use Rattle.tables.proofs.SearchLaws.{lt-or-ge, first-before, first-fails, first_past}
use Rattle.tables.proofs.ColumnLaws.{column-is}
use Rattle.tables.proofs.AreaLaws.{area-le}
use Rattle.tables.proofs.CheckLaws.{fault-stop, fault-go, fault-pass}
use Rattle.tables.proofs.FaultLaws as faults
use Rattle.scalars.specs.Bodies.{offset_at}
use Rattle.contents.specs.Contents.{column_fits, columns_check, before, start_at, starts_from, offset_fits, offsets_check, Sorted, Placed}

-- an answer is not past the end
module _ (ok : ℕ → Bool) where
  cond-le : (b : Bool) (x y m : ℕ) → x ≤ m → y ≤ m → cond b x y ≤ m
  cond-le true x y m p q = p
  cond-le false x y m p q = q

  from_le : (i n : ℕ) → first_from ok i n ≤ i + n
  unfolding first_from
  from_le i zero = omega arith
  from_le i (suc n) = cond-le (ok i) _ _ _ (omega (arith, from_le (suc i) n)) (omega arith)

  first-le : (hi : ℕ) → first ok 0 hi ≤ hi
  unfolding first
  first-le hi = omega (arith, from_le 0 (hi - 0))

  -- nor past a place at which the test fails
  first_by : (hi k : ℕ) → ok k ≡ false → first ok 0 hi ≤ k
  first_by hi k e = ⊎_elim (λ (h : k < first ok 0 hi). let z : ◌≡◌ {A = Bool} true false = sym (first-before ok 0 hi k zero-le h) ∙ e in absurd-by z) (λ h. h) (lt-or-ge k (first ok 0 hi))
    where
      absurd-by : true ≡ false → first ok 0 hi ≤ k
      absurd-by z = let n : ◌≡◌ {A = ℕ} 0 1 = cc in absurd (omega arith)

-- ---- 3

module _ (columns : List ℕ) (n : ℕ) where
  pub columns-stop : (k : ℕ) → Some k ≡ fault (column_fits columns n) 0 (length columns) → columns_check columns n ≡ bad_starts k
  unfolding columns_check
  columns-stop k e = fault-stop (column_fits columns n) (length columns) bad_starts k e

  pub columns-go : None ≡ fault (column_fits columns n) 0 (length columns) → columns_check columns n ≡ done
  unfolding columns_check
  columns-go e = fault-go (column_fits columns n) (length columns) bad_starts e

  pub columns-pass : refuses (columns_check columns n) ≡ false → None ≡ fault (column_fits columns n) 0 (length columns)
  unfolding columns_check
  columns-pass h = fault-pass (column_fits columns n) (length columns) bad_starts (λ k. refl) h

  pub sorted_of : None ≡ fault (column_fits columns n) 0 (length columns) → Sorted columns n
  unfolding column_fits
  sorted_of h = record { below = λ p l. ltb-true _ _ (and_left (ltb (at columns p) n) _ (ok p l)); rising = λ p q l m. by-distance (q - p) p q (omega arith) m }
    where
      ok : (p : ℕ) → p < length columns → column_fits columns n p ≡ true
      ok p l = faults.fault-clear (column_fits columns n) 0 (length columns) h p zero-le l

      next : (p : ℕ) → p + 1 < length columns → at columns p ≤ at columns (p + 1)
      next p l =
          let e : leb (at columns (p + 1 - 1)) (at columns (p + 1)) ≡ true = rw (ne_eqb (p + 1) 0 (λ z. omega arith)) at (and_right (ltb (at columns (p + 1)) n) _ (ok (p + 1) l)) in
          let back : p + 1 - 1 ≡ p = omega arith in
          leb-true _ _ (rw back at e)

      by-distance : (d p q : ℕ) → p + d ≡ q → q < length columns → at columns p ≤ at columns q
      by-distance zero p q e l = let z : p ≡ q = omega arith in rw z (omega arith)
      by-distance (suc d) p q e l = omega (arith, next p (omega arith), by-distance d (p + 1) q (omega arith) l)

-- ---- 15

module _ (dims rows columns offsets : List ℕ) (bodies : ℕ) where
  pub offsets-stop : (k : ℕ) → Some k ≡ fault (offset_fits dims rows columns offsets bodies) 0 (length offsets) → offsets_check dims rows columns offsets bodies ≡ bad_sheet
  unfolding offsets_check
  offsets-stop k e = fault-stop (offset_fits dims rows columns offsets bodies) (length offsets) (λ p. bad_sheet) k e

  pub offsets-go : None ≡ fault (offset_fits dims rows columns offsets bodies) 0 (length offsets) → offsets_check dims rows columns offsets bodies ≡ done
  unfolding offsets_check
  offsets-go e = fault-go (offset_fits dims rows columns offsets bodies) (length offsets) (λ p. bad_sheet) e

-- ---- the starts

module _ (columns : List ℕ) (n : ℕ) where
  pub length-starts : length (starts_from columns n) ≡ n + 1
  unfolding starts_from
  length-starts = length-map {A = ℕ} {B = ℕ} (from 0 (n + 1)) (start_at columns) ∙ length_from 0 (n + 1)

  pub starts-at : (j : ℕ) → j ≤ n → at (starts_from columns n) j ≡ start_at columns j
  unfolding starts_from
  starts-at j h =
      let l = length-map {A = ℕ} {B = ℕ} (from 0 (n + 1)) (start_at columns) ∙ length_from 0 (n + 1) in
      let e : get_or (from 0 (n + 1)) j 0 ≡ j = get_or-from 0 (n + 1) j (omega arith) ∙ omega arith in
      get_or_any (map {A = ℕ} {B = ℕ} (start_at columns) (from 0 (n + 1))) j 0 (start_at columns 0) (omega arith) ∙ get_or-map {A = ℕ} {B = ℕ} (start_at columns) (from 0 (n + 1)) j 0 ∙ ap (start_at columns) e

  pub starts-filled : (xs : List ℕ) → length xs ≡ n + 1 → ((j : ℕ) → j < n + 1 → at xs j ≡ start_at columns j) → xs ≡ starts_from columns n
  starts-filled xs l each =
      let m = length-starts in
      ext_get_or 0 xs (starts_from columns n) (omega arith) (λ j h. each j (omega arith) ∙ sym (starts-at j (omega arith)))

  pub start-le : (j : ℕ) → start_at columns j ≤ length columns
  unfolding start_at
  start-le j = first-le (before columns j) (length columns)

  -- the entries before a column's start are of columns before it
  pub start-before : (j p : ℕ) → p < start_at columns j → at columns p < j
  unfolding start_at
  start-before j p h = ltb-true _ _ (first-before (before columns j) 0 (length columns) p zero-le h)

  -- an entry of column j or beyond is not before its start
  pub start-by : (j p : ℕ) → j ≤ at columns p → start_at columns j ≤ p
  unfolding start_at
  start-by j p h = first_by (before columns j) (length columns) p (le-ltb (at columns p) j h)

  -- the entry at a column's start is of that column or beyond
  start_of : (j : ℕ) → start_at columns j < length columns → j ≤ at columns (start_at columns j)
  unfolding start_at
  start_of j h = ltb-false _ _ (first-fails (before columns j) 0 (length columns) zero-le h)

  -- where all entries from 0 to p are before column j, it starts past p
  pub start-past : (j p : ℕ) → p < length columns → ((q : ℕ) → q ≤ p → at columns q < j) → p < start_at columns j
  start-past j p l each =
      ⊎_elim (λ g. g) (λ (g : start_at columns j ≤ p). omega (arith, start_of j (omega arith), each (start_at columns j) g)) (lt-or-ge p (start_at columns j))

  rising : (j : ℕ) → start_at columns j ≤ start_at columns (j + 1)
  rising j =
      ⊎_elim
      (λ (h : start_at columns (j + 1) < start_at columns j). absurd (omega (arith, start-le j, start-before j (start_at columns (j + 1)) h, start_of (j + 1) (omega (arith, start-le j)))))
      (λ h. h)
      (lt-or-ge (start_at columns (j + 1)) (start_at columns j))

  module _ (s : Sorted columns n) where
    ends : start_at columns n ≡ length columns
    ends =
        ⊎_elim
        (λ (h : start_at columns n < length columns). absurd (omega (arith, start_of n h, s.below (start_at columns n) h)))
        (λ h. omega (arith, start-le n))
        (lt-or-ge (start_at columns n) (length columns))

    pub starts-ordered : Ordered (starts_from columns n) n (length columns)
    starts-ordered =
        record {
          entries = length-starts;
          begins = starts-at 0 zero-le ∙ omega (arith, start-by 0 0 zero-le);
          rising = λ j h. omega (arith, starts-at j (omega arith), starts-at (j + 1) (omega arith), rising j);
          ends = starts-at n (omega arith) ∙ ends;
          inside = λ j h. omega (arith, starts-at j h, start-le j);
        }

    -- the column of a place is the entry's own
    pub column-of : (p : ℕ) → p < length columns → column_of (starts_from columns n) n p ≡ at columns p
    column-of p l =
        let j = at columns p in
        let b : j < n = s.below p l in
        column-is starts-ordered j p b (omega (arith, starts-at j (omega arith), start-by j p (omega arith))) (omega (arith, starts-at (j + 1) (omega arith), start-past (j + 1) p l (λ q h. omega (arith, s.rising q p h l))))

-- ---- the loops

-- a search that goes on where all before is of columns before j
pub start-from : (columns : List ℕ) (j from : ℕ) → from ≤ length columns → ((q : ℕ) → q < from → at columns q < j) → first (before columns j) from (length columns) ≡ start_at columns j
unfolding start_at
start-from columns j from l each = sym (first_past (before columns j) 0 from (length columns) zero-le l (λ q _ h. lt-ltb (at columns q) j (each q h)))

module _ {dims rows columns offsets : List ℕ} (t : Placed dims rows columns offsets) (p : ℕ) (l : p < length columns) where
  -- the area of an entry's block
  pub area-is : area_at dims (starts_from columns (length dims)) rows p ≡ block_area dims rows (at dims (at columns p)) p
  area-is = ap (λ (j : ℕ). block_area dims rows (at dims j) p) (column-of columns (length dims) t.sorted p l)

  pub area_small : area_at dims (starts_from columns (length dims)) rows p ≤ 256
  area_small = area-le dims rows t.sizes _ p (t.sizes.small (column_of (starts_from columns (length dims)) (length dims) p))

module _ (dims rows columns offsets : List ℕ) (bodies p : ℕ) where
  pub offset-hits : at offsets p ≡ bodies + 8 * offset_at dims (starts_from columns (length dims)) rows p → offset_fits dims rows columns offsets bodies p ≡ true
  unfolding offset_fits
  offset-hits e = eq-eqb _ _ e

  pub offset-misses : (at offsets p ≡ bodies + 8 * offset_at dims (starts_from columns (length dims)) rows p → ⊥) → offset_fits dims rows columns offsets bodies p ≡ false
  unfolding offset_fits
  offset-misses e = ne_eqb _ _ e
