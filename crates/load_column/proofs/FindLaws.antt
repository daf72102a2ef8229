-- The search by halving: the point at which the rows of a column are parted, and what stands there. Assumes nothing.
use Rattle.std.specs.Prelude.{◌≡◌, ℕ, ◌+◌, ◌-◌, ◌<◌, ◌≤◌, Bool, true, false, not, eqb, ltb, List, length, get_or, drop, take, Some, None}
use mathlib.Core.Logic.{⊎_elim}
use mathlib.Core.Path.{ap, sym, ◌∙◌}
use native.Mathlib.Nat.{eq-or-lt_of_le}
use native.Mathlib.Omega.{arith}
use borrow.Author.Tests.{eq-eqb, ne_eqb, ltb-true, ltb-false, lt-ltb}
use lib.ListN.{length-drop}
use lib.Seq.{get_or-take, get_or-drop, length-take-le}
use Rattle.std.proofs.lemmas.List.{get_or_default}
use Rattle.std.specs.List.Sorted.{IsPartitionPoint, IsPartitionedBy}
use Rattle.tables.specs.Search.{first, fault}
use Rattle.tables.specs.Verdict.{at}
use Rattle.tables.proofs.FaultLaws.{fault-here, fault-none}
use Rattle.tables.proofs.SearchLaws.{lt-or-ge, first-ge, first-before, first-fails, first-at, first_past, first-end}
use Rattle.load_column.specs.Blocks.{ColumnRises}

-- ---- rows that ascend are parted where they come to this one

module _ (rows : List ℕ) (from end row : ℕ) (ordered : from ≤ end) (within : end ≤ length rows) where
  abbrev below : ℕ → Bool
  below p = ltb (at rows p) row

  abbrev part : List ℕ
  part = take (end - from) (drop from rows)

  many : from + length part ≡ end
  many = omega (arith, length-take-le (end - from) (drop from rows) (omega (arith, length-drop from rows)), length-drop from rows)

  entry : (i : ℕ) → from + i < end → at part i ≡ at rows (from + i)
  entry i h = get_or-take (end - from) (drop from rows) i 0 (omega arith) ∙ get_or-drop from rows i 0

  pub parted : ((p q : ℕ) → from ≤ p → p < q → q < end → at rows p < at rows q) → IsPartitionedBy (λ (x : ℕ). ltb x row) part
  parted rises i j d l h t =
      let b : from + j < end = omega (arith, many) in
      let z : i < length part = omega arith in
      let jj : at rows (from + j) < row = rw (get_or_default part j d 0 h, entry j b) at (ltb-true (get_or part j d) row t) in
      rw (get_or_default part i d 0 z, entry i (omega arith))
      (lt-ltb (at rows (from + i)) row (⊎_elim (λ (s : i ≡ j). rw s jj) (λ s. let r = rises (from + i) (from + j) (omega arith) (omega arith) b in omega arith) (eq-or-lt_of_le l)))

  pub parted-at : (i : ℕ) → i ≤ length part → IsPartitionPoint (λ (x : ℕ). ltb x row ≡ true) (λ (x : ℕ). ltb x row ≡ false) part i → from + i ≡ first below from end
  parted-at i h point =
      ⊎_elim
      (λ b. sym (first-at below from (from + i) end (omega arith) b before (let z : i < length part = omega (arith, many) in rw (sym (entry i b)) (point.1 i 0 (omega arith) z))))
      (λ b. let z : from + i ≡ end = omega (arith, many) in
      rw z (sym (first_past below from end end ordered (omega arith) (λ p a l. before p a (omega arith)) ∙ first-end below end end (omega arith))))
      (lt-or-ge (from + i) end)
    where
      before : (p : ℕ) → from ≤ p → p < from + i → below p ≡ true
      before p a l =
          let k : from + (p - from) ≡ p = omega arith in
          rw (ap (at rows) (sym k), sym (entry (p - from) (omega (arith, many)))) (point.0 (p - from) 0 (omega arith) (omega arith))

-- ---- what stands at the first place of a column whose row is not below this one

-- is the row at this place another?
abbrev other : (rows : List ℕ) → (row p : ℕ) → Bool
other rows row p = not (eqb (at rows p) row)

module _ {starts rows : List ℕ} (row : ℕ) {column : ℕ} (c : ColumnRises starts rows column) (place : ℕ) (e : place ≡ first (λ p. ltb (at rows p) row) (at starts column) (at starts (column + 1))) where
  lesser : (p : ℕ) → at starts column ≤ p → p < place → at rows p < row
  lesser p a b = ltb-true (at rows p) row (first-before (λ p. ltb (at rows p) row) (at starts column) (at starts (column + 1)) p a (rw e at b))

  differs : (p : ℕ) → (at rows p ≡ row → ⊥) → other rows row p ≡ true
  differs p n = ap not (ne_eqb (at rows p) row n)

  pub found : place < at starts (column + 1) → at rows place ≡ row → Some place ≡ fault (other rows row) (at starts column) (at starts (column + 1))
  found h s =
      fault-here (other rows row) (at starts column) place (at starts (column + 1)) (rw e (first-ge (λ p. ltb (at rows p) row) (at starts column) (at starts (column + 1)))) h
      (λ p a b. differs p (λ z. let r = lesser p a b in omega arith)) (ap not (eq-eqb (at rows place) row s))

  pub none_left : at starts (column + 1) ≤ place → None ≡ fault (other rows row) (at starts column) (at starts (column + 1))
  none_left h = fault-none (other rows row) (at starts column) (at starts (column + 1)) (λ p a b. differs p (λ z. let r = lesser p a (omega arith) in omega arith))

  pub other_row : place < at starts (column + 1) → (at rows place ≡ row → ⊥) → None ≡ fault (other rows row) (at starts column) (at starts (column + 1))
  other_row h n = fault-none (other rows row) (at starts column) (at starts (column + 1)) (λ p a b. differs p (λ z. ⊎_elim (λ s. let r = lesser p a s in omega arith) (λ s. past p s b z) (lt-or-ge p place)))
    where
      here : row ≤ at rows place
      here = rw e (ltb-false (at rows (first (λ p. ltb (at rows p) row) (at starts column) (at starts (column + 1)))) row (first-fails (λ p. ltb (at rows p) row) (at starts column) (at starts (column + 1)) c.inside.0 (rw e at h)))

      past : (p : ℕ) → place ≤ p → p < at starts (column + 1) → at rows p ≡ row → ⊥
      past p a b z =
          ⊎_elim (λ s. n (ap (at rows) s ∙ z)) (λ s. let r = c.rises place p (rw e (first-ge (λ p. ltb (at rows p) row) (at starts column) (at starts (column + 1)))) s b in omega (arith, here)) (eq-or-lt_of_le a)
