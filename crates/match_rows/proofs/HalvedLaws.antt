-- The rows of a column by their places, the place of a row, and what it says of the column. Assumes nothing.
use Rattle.std.specs.Prelude.{◌≡◌, ℕ, suc, ◌+◌, ◌-◌, ◌<◌, ◌≤◌, Bool, true, false, T, eqb, ltb, not, is_some, List, [], ◌∷◌, length, take, slice_get, Option, Some, None}
use mathlib.Core.Logic.{⊎_elim}
use mathlib.Core.Path.{refl, sym, ap, subst, ◌∙◌}
use native.Mathlib.Nat.{eq-or-lt_of_le}
use native.Mathlib.Omega.{arith}
use borrow.Author.Tests.{ltb-true, ltb-false, lt-ltb, le-ltb, eqb-false, not-true, not-false}
use lib.Dec.{eqb→eq}
use lib.Seq.{slice, slice-cons, slice_empty, get_or-take, get_or-drop, length-slice}
use Rattle.graph.specs.Sets.{elem}
use Rattle.graph.specs.Links.{rows_in}
use Rattle.graph.specs.Symbolic as symbolic
use Rattle.graph.proofs.SetLaws.{eqb_of, is_true, true_of, false_of}
use Rattle.graph.proofs.CountLaws.{same_test}
use Rattle.buckets.proofs.Lists.{elem_at}
use Rattle.std.specs.Option.{unwrap_or}
use Rattle.tables.specs.Search.{first, fault}
use Rattle.tables.specs.Verdict.{at}
use Rattle.tables.specs.Sound.{Columns}
use Rattle.tables.proofs.SearchLaws.{lt-or-ge, first-ge, first-before, first-fails, first-none, first-at, first_past, first-end}
use Rattle.tables.proofs.FaultLaws.{fault-some, fault-clear}
use Rattle.tables.proofs.TableLaws.{place-of}
use Rattle.elimination_tree.specs.Tree.{code}
use Rattle.load_column.specs.Blocks.{ColumnRises}
use Rattle.match_rows.specs.Rows.{heads}

-- ---- a part of a list by its places

module _ (l : List ℕ) (a e : ℕ) (w : e ≤ length l) where
  slice_at : (i : ℕ) → a + i < e → at (slice a e l) i ≡ at l (a + i)
  slice_at i h = get_or-drop a (take e l) i 0 ∙ get_or-take e l (a + i) 0 h

  pub slice-elem : (p : ℕ) → a ≤ p → p < e → T (elem (at l p) (slice a e l))
  slice-elem p h b =
      let z : a + (p - a) ≡ p = omega arith in
      subst (λ (x : ℕ). T (elem x (slice a e l))) (slice_at (p - a) (omega arith) ∙ ap (at l) z) (elem_at (slice a e l) (p - a) (omega (arith, length-slice a e l w)))

  pub slice-place : (x : ℕ) → T (elem x (slice a e l)) → (p : ℕ) × (a ≤ p) × (p < e) × (at l p ≡ x)
  slice-place x t =
      let r = place-of x (slice a e l) t in
      let b : a + r.0 < e = omega (arith, r.1, length-slice a e l w) in
      (a + r.0, omega arith, b, sym (slice_at r.0 b) ∙ r.2)

-- ---- columns of good shape

module _ {least : ℕ → ℕ} {n : ℕ} {starts rows : List ℕ} (c : Columns least n starts rows) (j : ℕ) (h : j < n) where
  pub rises-of : ColumnRises starts rows j
  rises-of =
      let o = c.ordered in
      record { known = omega (arith, o.entries); inside = (o.rising j h, o.inside (j + 1) (omega arith)); rises = λ p q a b l. c.rises j p q h a b l }

  pub listed_at : (p : ℕ) → at starts j ≤ p → p < at starts (j + 1) → T (elem (at rows p) (rows_in starts rows j))
  listed_at = slice-elem rows (at starts j) (at starts (j + 1)) (c.ordered.inside (j + 1) (omega arith))

  pub listed_place : (x : ℕ) → T (elem x (rows_in starts rows j)) → (p : ℕ) × (at starts j ≤ p) × (p < at starts (j + 1)) × (at rows p ≡ x)
  listed_place = slice-place rows (at starts j) (at starts (j + 1)) (c.ordered.inside (j + 1) (omega arith))

-- ---- the place of a row: the first whose row is not below it

-- the rows before this place are below this row, and none from it on is
pub record Parted (starts rows : List ℕ) (row column place : ℕ) : Type 0 where
  pub low : at starts column ≤ place
  pub high : place ≤ at starts (column + 1)
  pub before : (p : ℕ) → at starts column ≤ p → p < place → at rows p < row
  pub behind : (p : ℕ) → place ≤ p → p < at starts (column + 1) → row ≤ at rows p

module _ {starts rows : List ℕ} {row column : ℕ} (c : ColumnRises starts rows column) where
  -- where the rows before a place are below this one, and its own is not
  pub place-met : (place : ℕ) → at starts column ≤ place → place ≤ at starts (column + 1) → ((p : ℕ) → at starts column ≤ p → p < place → at rows p < row) → (place < at starts (column + 1) → row ≤ at rows place)
      → place ≡ first (λ p. ltb (at rows p) row) (at starts column) (at starts (column + 1))
  place-met place a b before here =
      ⊎_elim
      (λ h. sym (first-at (λ p. ltb (at rows p) row) (at starts column) place (at starts (column + 1)) a h below (le-ltb (at rows place) row (here h))))
      (λ h. sym (first_past (λ p. ltb (at rows p) row) (at starts column) place (at starts (column + 1)) a b below ∙ first-end (λ p. ltb (at rows p) row) place (at starts (column + 1)) h))
      (lt-or-ge place (at starts (column + 1)))
    where
      below : (p : ℕ) → at starts column ≤ p → p < place → ltb (at rows p) row ≡ true
      below p a b = lt-ltb (at rows p) row (before p a b)

  -- what is below is passed over
  pub place-past : (from : ℕ) → at starts column ≤ from → from < at starts (column + 1) → ((p : ℕ) → at starts column ≤ p → p < from → at rows p < row) → at rows from < row
      → first (λ p. ltb (at rows p) row) (from + 1) (at starts (column + 1)) ≡ first (λ p. ltb (at rows p) row) (at starts column) (at starts (column + 1))
  place-past from a b before here =
      sym (first_past (λ p. ltb (at rows p) row) (at starts column) (from + 1) (at starts (column + 1)) (omega arith) (omega arith)
      (λ p l h. lt-ltb (at rows p) row (⊎_elim (λ s. before p l s) (λ s. let z : p ≡ from = omega arith in rw z here) (lt-or-ge p from))))

  pub parted-at : (place : ℕ) → place ≡ first (λ p. ltb (at rows p) row) (at starts column) (at starts (column + 1)) → Parted starts rows row column place
  parted-at place e =
      record { low = rw e (first-ge test (at starts column) (at starts (column + 1))); high = high; before = below; behind = behind }
    where
      test : ℕ → Bool
      test p = ltb (at rows p) row

      below : (p : ℕ) → at starts column ≤ p → p < place → at rows p < row
      below p a b = ltb-true (at rows p) row (first-before test (at starts column) (at starts (column + 1)) p a (rw e at b))

      high : place ≤ at starts (column + 1)
      high = ⊎_elim (λ (h : place < at starts (column + 1)). omega arith)
          (λ (h : at starts (column + 1) ≤ place).
          let z = first_past test (at starts column) (at starts (column + 1)) (at starts (column + 1)) c.inside.0 (omega arith) (first-none test (at starts column) (at starts (column + 1)) (rw e at h)) in
          omega (arith, e, z, first-end test (at starts (column + 1)) (at starts (column + 1)) (omega arith)))
          (lt-or-ge place (at starts (column + 1)))

      behind : (p : ℕ) → place ≤ p → p < at starts (column + 1) → row ≤ at rows p
      behind p a b =
          let l : first test (at starts column) (at starts (column + 1)) < at starts (column + 1) = omega (arith, e) in
          let here : row ≤ at rows place = rw e (ltb-false (at rows (first test (at starts column) (at starts (column + 1)))) row (first-fails test (at starts column) (at starts (column + 1)) c.inside.0 l)) in
          ⊎_elim (λ (z : place ≡ p). rw z at here) (λ s. let r = c.rises place p (rw e (first-ge test (at starts column) (at starts (column + 1)))) s b in omega arith) (eq-or-lt_of_le a)

-- ---- the end of the search

module _ {starts rows : List ℕ} {row column place : ℕ} (c : ColumnRises starts rows column) (g : Parted starts rows row column place) where
  pub holds-here : place < at starts (column + 1) → eqb (at rows place) row ≡ elem row (rows_in starts rows column)
  holds-here h =
      same_test (eqb (at rows place) row) (elem row (rows_in starts rows column))
      (λ t. subst (λ (x : ℕ). T (elem x (rows_in starts rows column))) (eqb→eq (at rows place) row t) (slice-elem rows (at starts column) (at starts (column + 1)) c.inside.1 place g.low h))
      (λ m.
      let r = slice-place rows (at starts column) (at starts (column + 1)) c.inside.1 row m in
      eqb_of (at_place r.0 r.1 r.2 r.3))
    where
      at_place : (p : ℕ) → at starts column ≤ p → p < at starts (column + 1) → at rows p ≡ row → at rows place ≡ row
      at_place p a b e =
          ⊎_elim (λ s. let q = g.before p a s in absurd (omega arith))
          (λ s. ⊎_elim (λ (z : place ≡ p). ap (at rows) z ∙ e) (λ t. let q = c.rises place p g.low t b in let w = g.behind place (omega arith) h in absurd (omega arith)) (eq-or-lt_of_le s))
          (lt-or-ge p place)

  pub holds-none : at starts (column + 1) ≤ place → false ≡ elem row (rows_in starts rows column)
  holds-none h =
      sym (false_of (elem row (rows_in starts rows column))
      (λ m.
      let r = slice-place rows (at starts column) (at starts (column + 1)) c.inside.1 row m in
      let q = g.before r.0 r.1 (omega (arith, r.2)) in
      omega (arith, r.3)))

-- ---- is the row there?

module _ {starts rows : List ℕ} (row : ℕ) {column : ℕ} (c : ColumnRises starts rows column) where
  pub holds-is : (o : Option ℕ) → o ≡ fault (λ p. not (eqb (at rows p) row)) (at starts column) (at starts (column + 1)) → is_some o ≡ elem row (rows_in starts rows column)
  holds-is (Some p) e =
      let r = fault-some (λ p. not (eqb (at rows p) row)) (at starts column) (at starts (column + 1)) p e in
      let l : at starts column ≤ p = rw (sym r.0) at (first-ge (λ p. not (eqb (at rows p) row)) (at starts column) (at starts (column + 1))) in
      let f : not (eqb (at rows p) row) ≡ false = rw (sym r.0) at (first-fails (λ p. not (eqb (at rows p) row)) (at starts column) (at starts (column + 1)) c.inside.0 (rw r.0 at r.1)) in
      let z : at rows p ≡ row = eqb→eq (at rows p) row (is_true (not-false (eqb (at rows p) row) f)) in
      sym (true_of (elem row (rows_in starts rows column)) (subst (λ (x : ℕ). T (elem x (rows_in starts rows column))) z (slice-elem rows (at starts column) (at starts (column + 1)) c.inside.1 p l r.1)))
  holds-is None e =
      sym (false_of (elem row (rows_in starts rows column))
      (λ m.
      let r = slice-place rows (at starts column) (at starts (column + 1)) c.inside.1 row m in
      eqb-false (at rows r.0) row (not-true (eqb (at rows r.0) row) (fault-clear (λ p. not (eqb (at rows p) row)) (at starts column) (at starts (column + 1)) e r.0 r.1 r.2)) r.3))

-- ---- the first row of a column

module _ {starts rows : List ℕ} {j : ℕ} (c : ColumnRises starts rows j) where
  pub column-some : at starts j < at starts (j + 1) → rows_in starts rows j ≡ at rows (at starts j) ∷ slice (suc (at starts j)) (at starts (j + 1)) rows
  column-some h = slice-cons (at starts j) (at starts (j + 1)) rows 0 h c.inside.1

  pub column-none : at starts (j + 1) ≤ at starts j → rows_in starts rows j ≡ []
  column-none h =
      let z : at starts (j + 1) ≡ at starts j = omega (arith, c.inside.0) in
      ap (λ (e : ℕ). slice (at starts j) e rows) z ∙ slice_empty (at starts j) rows

  -- the first row, read from the table
  pub heads-at : (k : ℕ) → at starts j < at starts (j + 1) → heads (rows_in starts rows j) k ≡ eqb (at rows (at starts j)) k
  heads-at k h = ap (λ (l : List ℕ). heads l k) (column-some h)

  pub heads-none : (k : ℕ) → at starts (j + 1) ≤ at starts j → heads (rows_in starts rows j) k ≡ false
  heads-none k h = ap (λ (l : List ℕ). heads l k) (column-none h)

  pub heads-is : (k : ℕ) → T (heads (rows_in starts rows j) k) → (at starts j < at starts (j + 1)) × (at rows (at starts j) ≡ k)
  heads-is k t =
      ⊎_elim (λ h. (h, eqb→eq (at rows (at starts j)) k (subst T (heads-at k h) t))) (λ h. absurd (subst T (heads-none k h) t)) (lt-or-ge (at starts j) (at starts (j + 1)))

  -- as the table of the parents holds it
  pub first-code : unwrap_or (slice_get (rows_in starts rows j) 0) 4294967295 ≡ code (symbolic.first (rows_in starts rows j))
  first-code = by-list (rows_in starts rows j)
    where
      by-list : (l : List ℕ) → unwrap_or (slice_get l 0) 4294967295 ≡ code (symbolic.first l)
      by-list [] = refl
      by-list (x ∷ l) = refl
