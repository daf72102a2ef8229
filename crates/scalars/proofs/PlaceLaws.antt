-- Where a block is stored, and its body under new numbers.
--     place_is       a stored block is found by its row and column
--     place-stored   and what its column lists has a place
--     block-above    for new numbers j ≤ i whose old ones rise: the body is transposed
--     block-below    for others it stays as it is
-- Assumes nothing.
use Rattle.std.specs.Prelude.{◌≡◌, ℕ, ◌+◌, ◌-◌, ◌<◌, ◌≤◌, min, max, Bool, true, false, not, T, eqb, ltb, List, length, take}
use mathlib.Core.Path.{refl, sym, ap, subst, ◌∙◌}
use native.Mathlib.Omega.{arith}
use borrow.Author.Tests.{eq-eqb, ne_eqb, lt-ltb, le-ltb}
use lib.Ieee.{Float}
use lib.Seq.{length-slice, get_or-take, get_or-drop}
use Rattle.graph.specs.Sets.{elem}
use Rattle.graph.specs.Links.{rows_in}
use Rattle.order.specs.Order.{Inverse}
use Rattle.order.proofs.Laws.{place-of}
use Rattle.scalar.specs.Block as block
use Rattle.tables.specs.Verdict.{at, column_of, areas}
use Rattle.tables.specs.Sound.{Columns}
use Rattle.tables.proofs.SearchLaws.{first-at}
use Rattle.tables.proofs.ColumnLaws.{column-is}
use Rattle.scalars.specs.Bodies.{place_of, body_at, lands_above, permuted_body}
use Rattle.scalars.proofs.BodyLaws.{permuted-above, permuted-below}

-- what is stored at place p
pub record Stored (starts rows : List ℕ) (n row column p : ℕ) : Type 0 where
  pub inside : p < length rows
  pub here : at rows p ≡ row
  pub of : column_of starts n p ≡ column

module _ {least : ℕ → ℕ} {n : ℕ} {starts rows : List ℕ} (c : Columns least n starts rows) where
  pub place_is : (column p : ℕ) → column < n → at starts column ≤ p → p < at starts (column + 1) → place_of starts rows (at rows p) column ≡ p
  unfolding place_of
  place_is column p h lo hi =
      first-at (λ q. not (eqb (at rows q) (at rows p))) (at starts column) p (at starts (column + 1)) lo hi
      (λ q a b. ap not (ne_eqb (at rows q) (at rows p) (λ e. let r = c.rises column q p h a b hi in omega arith)))
      (ap not (eq-eqb (at rows p) (at rows p) refl))

  pub place-stored : (row column : ℕ) → column < n → T (elem row (rows_in starts rows column)) → Stored starts rows n row column (place_of starts rows row column)
  place-stored row column h t =
      let lo = at starts column in
      let hi = at starts (column + 1) in
      let up = c.ordered.rising column h in
      let in' = c.ordered.inside (column + 1) (omega arith) in
      let long : length (rows_in starts rows column) ≡ hi - lo = length-slice lo hi rows in' in
      let r = place-of row (rows_in starts rows column) t in
      let i : r.0 < hi - lo = omega (arith, r.1, long) in
      let e : at rows (lo + r.0) ≡ row = sym (get_or-drop lo (take hi rows) r.0 0 ∙ get_or-take hi rows (lo + r.0) 0 (omega arith)) ∙ r.2 in
      let p : place_of starts rows row column ≡ lo + r.0 = ap (λ (x : ℕ). place_of starts rows x column) (sym e) ∙ place_is column (lo + r.0) h (omega arith) (omega arith) in
      subst (Stored starts rows n row column) (sym p) (record { inside = omega arith; here = e; of = column-is c.ordered column (lo + r.0) h (omega arith) (omega arith) })

-- ---- by new numbers j ≤ i: the block of their old numbers, stored at place p

module _ (dims starts rows : List ℕ) (values : List Float) (order inv : List ℕ) (ip : Inverse (length dims) order inv) (counted : length values ≡ areas dims starts rows)
    (i j : ℕ) (h : i < length dims) (le : j ≤ i) (p : ℕ) (s : Stored starts rows (length dims) (max (at order i) (at order j)) (min (at order i) (at order j)) p) where
  -- it lands above the diagonal where the old numbers rise
  lands : (x y : ℕ) → at rows p ≡ x → column_of starts (length dims) p ≡ y → (b : Bool) → ltb (at inv x) (at inv y) ≡ b → lands_above starts rows inv (length dims) p ≡ b
  lands x y ex ey b e = rw (ex, ey) e

  module _ (rise : at order i < at order j) where
    greater : max (at order i) (at order j) ≡ at order j
    greater = omega arith

    lesser : min (at order i) (at order j) ≡ at order i
    lesser = omega arith

    -- so the entry (r, c) is the stored block's (c, r)
    pub block-above : (r c : ℕ) → r < at dims (at order i) → c < at dims (at order j)
        → block.at (permuted_body dims starts rows values inv p) (at dims (at order i)) r c ≡ block.at (body_at dims starts rows values p) (at dims (at order j)) c r
    block-above r c hr hc =
        let a = ip.there i h in
        let b = ip.there j (omega arith) in
        let row : at rows p ≡ at order j = s.here ∙ greater in
        let col : column_of starts (length dims) p ≡ at order i = s.of ∙ lesser in
        let apart : (i ≡ j → ⊥) = λ e. let z = ap (at order) e in omega arith in
        let up = lands (at order j) (at order i) row col true (lt-ltb (at inv (at order j)) (at inv (at order i)) (omega (arith, a.1, b.1))) in
        subst (λ (m : ℕ). block.at (permuted_body dims starts rows values inv p) (at dims m) r c ≡ block.at (body_at dims starts rows values p) (at dims (at order j)) c r) col
        (subst (λ (m : ℕ). block.at (permuted_body dims starts rows values inv p) (at dims (column_of starts (length dims) p)) r c ≡ block.at (body_at dims starts rows values p) (at dims m) c r) row
        (permuted-above dims starts rows values inv p counted s.inside up c r (subst (λ (m : ℕ). c < at dims m) (sym row) hc) (subst (λ (m : ℕ). r < at dims m) (sym col) hr)))

  pub block-below : at order j ≤ at order i → permuted_body dims starts rows values inv p ≡ body_at dims starts rows values p
  block-below fall =
      let a = ip.there i h in
      let b = ip.there j (omega arith) in
      let g : max (at order i) (at order j) ≡ at order i = omega arith in
      let l : min (at order i) (at order j) ≡ at order j = omega arith in
      permuted-below dims starts rows values inv p counted s.inside
      (lands (at order i) (at order j) (s.here ∙ g) (s.of ∙ l) false (le-ltb (at inv (at order i)) (at inv (at order j)) (omega (arith, a.1, b.1))))
