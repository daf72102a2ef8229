-- A's block (row, column): where the search has found it, what stands there; and what is loaded of it. Assumes nothing.
use Rattle.std.specs.Prelude.{◌≡◌, ℕ, ◌+◌, ◌-◌, ◌*◌, ◌<◌, ◌≤◌, min, max, Bool, true, false, not, eqb, ltb, List, [], length, Some, None}
use mathlib.Core.Path.{refl, sym, ap, subst, ◌∙◌}
use native.Mathlib.Omega.{arith}
use borrow.Author.Tests.{not-false, lt-ltb, le-ltb}
use lib.Dec.{eqb→eq}
use lib.Ieee.{Float}
use Rattle.graph.proofs.SetLaws.{is_true}
use Rattle.scalar.specs.Block.{zeros}
use Rattle.tables.specs.Search.{fault}
use Rattle.tables.specs.Verdict.{at, column_of}
use Rattle.tables.proofs.FaultLaws.{fault-some, fault-past}
use Rattle.tables.proofs.SearchLaws.{first-ge, first-fails}
use Rattle.tables.proofs.ColumnLaws.{column-is}
use Rattle.scalars.specs.Bodies.{place_of, body_at, landed}
use Rattle.scalars.proofs.BodyLaws.{offset-next, body-inside, length-offsets, offsets-at, body-between, body-area}
use Rattle.scalars.proofs.PlaceLaws.{Stored}
use Rattle.block_product.specs.Working.{slot}
use Rattle.load_column.specs.Blocks.{ColumnRises, Kept, stored_block, block_at}
use Rattle.load_column.proofs.BodyLaws.{added}

same_of : (x y : ℕ) → not (eqb x y) ≡ false → x ≡ y
same_of x y e = eqb→eq x y (is_true (not-false (eqb x y) e))

-- the body at place p lies in the values
pub record BodyFits (dims : List ℕ) (values : List Float) (bodies : List ℕ) (row column p : ℕ) : Type 0 where
  pub in_bodies : p + 1 < length bodies
  pub in_values : (at bodies p ≤ at bodies (p + 1)) × (at bodies (p + 1) ≤ length values)
  pub area : length (slot (at bodies p) (at bodies (p + 1) - at bodies p) values) ≡ at dims row * at dims column

module _ {dims starts rows : List ℕ} {values : List Float} {bodies : List ℕ} (k : Kept dims starts rows values bodies) (row column : ℕ) (h : column < length dims) where
  pub column-rises : ColumnRises starts rows column
  column-rises =
      let o = k.columns.ordered in
      record { known = omega (arith, o.entries); inside = (o.rising column h, o.inside (column + 1) (omega arith)); rises = λ p q a b l. k.columns.rises column p q h a b l }

  -- ---- it is stored, at the place p that the search found

  module _ (p : ℕ) (e : p ≡ place_of starts rows row column) (found : p < at starts (column + 1)) where
    pub stored_here : Stored starts rows (length dims) row column p
    unfolding place_of
    stored_here =
        let lo = at starts column in
        let hi = at starts (column + 1) in
        let ok : ℕ → Bool = λ q. not (eqb (at rows q) row) in
        let up = column-rises.inside in
        let ge : lo ≤ p = subst (λ (m : ℕ). lo ≤ m) (sym e) (first-ge ok lo hi) in
        let fails : ok p ≡ false = subst (λ (m : ℕ). ok m ≡ false) (sym e) (first-fails ok lo hi up.0 (subst (λ (m : ℕ). m < hi) e found)) in
        record { inside = omega arith; here = same_of (at rows p) row fails; of = column-is k.columns.ordered column p h ge found }

    between : body_at dims starts rows values p ≡ slot (at bodies p) (at bodies (p + 1) - at bodies p) values
    between = subst (λ (b : List ℕ). body_at dims starts rows values p ≡ slot (at b p) (at b (p + 1) - at b p) values) (sym k.by_bodies) (body-between dims starts rows values p stored_here.inside)

    pub stored_fits : BodyFits dims values bodies row column p
    stored_fits =
        let s = stored_here in
        let a = ap (λ (b : List ℕ). at b p) k.by_bodies ∙ offsets-at dims starts rows p (omega (arith, s.inside)) in
        let b = ap (λ (b : List ℕ). at b (p + 1)) k.by_bodies ∙ offsets-at dims starts rows (p + 1) (omega (arith, s.inside)) in
        let n = offset-next dims starts rows p in
        let i = body-inside dims starts rows p s.inside in
        record {
          in_bodies = omega (arith, s.inside, ap length k.by_bodies, length-offsets dims starts rows);
          in_values = (omega (arith, a, b, n), omega (arith, b, n, i, k.counted));
          area = ap length (sym between) ∙ body-area dims starts rows values [] p k.counted s.inside
              ∙ ap (λ (m : ℕ). at dims m * at dims (column_of starts (length dims) p)) s.here ∙ ap (λ (m : ℕ). at dims row * at dims m) s.of;
        }

    -- so this is loaded
    pub found_is : (above : Bool) → stored_block dims starts rows values above row column ≡ added (landed above (at dims row) (at dims column) (body_at dims starts rows values p))
    unfolding stored_block
    found_is above =
        let t : ltb (place_of starts rows row column) (at starts (column + 1)) ≡ true = subst (λ (m : ℕ). ltb m (at starts (column + 1)) ≡ true) e (lt-ltb p (at starts (column + 1)) found) in
        rw t (ap (λ (q : ℕ). added (landed above (at dims row) (at dims column) (body_at dims starts rows values q))) (sym e))

    pub block_found : (above : Bool) → added (landed above (at dims row) (at dims column) (slot (at bodies p) (at bodies (p + 1) - at bodies p) values)) ≡ stored_block dims starts rows values above row column
    block_found above = ap (λ (b : List Float). added (landed above (at dims row) (at dims column) b)) (sym between) ∙ sym (found_is above)

  -- ---- it is not

  pub missing_is : (p : ℕ) (e : p ≡ place_of starts rows row column) (none : at starts (column + 1) ≤ p) (above : Bool) → stored_block dims starts rows values above row column ≡ zeros (at dims row * at dims column)
  unfolding stored_block
  missing_is p e none above =
      let t : ltb (place_of starts rows row column) (at starts (column + 1)) ≡ false = subst (λ (m : ℕ). ltb m (at starts (column + 1)) ≡ false) e (le-ltb p (at starts (column + 1)) none) in
      rw t

  -- ---- as the search tells it

  row-found : (p : ℕ) → Some p ≡ fault (λ q. not (eqb (at rows q) row)) (at starts column) (at starts (column + 1)) → (p ≡ place_of starts rows row column) × (p < at starts (column + 1))
  unfolding place_of
  row-found = fault-some (λ q. not (eqb (at rows q) row)) (at starts column) (at starts (column + 1))

  row-missing : None ≡ fault (λ q. not (eqb (at rows q) row)) (at starts column) (at starts (column + 1)) → at starts (column + 1) ≤ place_of starts rows row column
  unfolding place_of
  row-missing = fault-past (λ q. not (eqb (at rows q) row)) (at starts column) (at starts (column + 1))

  module _ (p : ℕ) (s : Some p ≡ fault (λ q. not (eqb (at rows q) row)) (at starts column) (at starts (column + 1))) where
    pub found-fits : BodyFits dims values bodies row column p
    found-fits = stored_fits p (row-found p s).0 (row-found p s).1

    pub found-block : (above : Bool) → added (landed above (at dims row) (at dims column) (slot (at bodies p) (at bodies (p + 1) - at bodies p) values)) ≡ stored_block dims starts rows values above row column
    found-block = block_found p (row-found p s).0 (row-found p s).1

  pub none-block : None ≡ fault (λ q. not (eqb (at rows q) row)) (at starts column) (at starts (column + 1)) → (above : Bool) → stored_block dims starts rows values above row column ≡ zeros (at dims row * at dims column)
  none-block none = missing_is (place_of starts rows row column) refl (row-missing none)

-- ---- by new numbers

module _ (dims starts rows : List ℕ) (values : List Float) (order : List ℕ) (i j : ℕ) where
  pub block-rises : at order i < at order j → stored_block dims starts rows values true (at order j) (at order i) ≡ block_at dims starts rows values order i j
  unfolding block_at
  block-rises h =
      let t : ltb (at order i) (at order j) ≡ true = lt-ltb (at order i) (at order j) h in
      let g : max (at order i) (at order j) ≡ at order j = omega arith in
      let l : min (at order i) (at order j) ≡ at order i = omega arith in
      rw (t, g, l)

  pub block_falls : at order j ≤ at order i → stored_block dims starts rows values false (at order i) (at order j) ≡ block_at dims starts rows values order i j
  unfolding block_at
  block_falls h =
      let t : ltb (at order i) (at order j) ≡ false = le-ltb (at order i) (at order j) h in
      let g : max (at order i) (at order j) ≡ at order i = omega arith in
      let l : min (at order i) (at order j) ≡ at order j = omega arith in
      rw (t, g, l)
