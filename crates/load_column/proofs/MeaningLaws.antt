-- What is loaded from A's tables is what the machine loads.
--     inverse-holds   the machine's inverse of an order is its inverse
--     block-length    a loaded block has as many numbers as the two dimensions say
--     block-is        it is the machine's loaded row
--     column-loaded   and so where all rows of a column are done, the column is loaded
-- Assumes nothing.
use Rattle.std.specs.Prelude.{◌≡◌, ℕ, ◌+◌, ◌-◌, ◌*◌, ◌<◌, ◌≤◌, min, max, Bool, true, false, cond, not, ◌&&◌, T, eqb, ltb, leb, List, map, length, take}
use mathlib.Core.Logic.{⊎_elim}
use mathlib.Core.Option.{none, some}
use mathlib.Core.Path.{refl, sym, ap, subst, ◌∙◌}
use native.Mathlib.Nat.{mul_comm}
use native.Mathlib.Omega.{arith}
use borrow.Author.Tests.{lt-ltb, le-ltb, le-leb, eq-eqb, ne_eqb}
use lib.Ieee.{Float}
use lib.ListN.{length-map, length-replicate, get_or-map}
use lib.Seq.{length-slice, get_or-take, get_or-drop}
use Rattle.graph.specs.Sets.{elem, from}
use Rattle.graph.specs.Links.{rows_in}
use Rattle.graph.specs.Order.{Permutes}
use Rattle.graph.proofs.SetLaws.{true_of, false_of}
use Rattle.buckets.proofs.Lists.{elem_at, get_or_any}
use Rattle.scalar.specs.Scalar.{nought}
use Rattle.scalar.specs.Block.{zeros}
use Rattle.tables.specs.Search.{first}
use Rattle.tables.specs.Verdict.{at, column_of}
use Rattle.tables.proofs.SearchLaws.{lt-or-ge, first-at, first-ge, first-none}
use Rattle.order.specs.Order.{Inverse}
use Rattle.order.proofs.Laws.{place-of, once-at, below_at, inverse-of, length_from, get_or-from}
use Rattle.scalars.specs.Bodies.{place_of, body_at, landed, lands_above, permuted_body}
use Rattle.scalars.proofs.BodyLaws.{landed-length, body-area}
use Rattle.scalars.proofs.PlaceLaws.{Stored}
use Rattle.machine.specs.System.{System, inverse_of, loaded, loaded_row}
use Rattle.machine.specs.Machine.{body_or}
use Rattle.layout.specs.Layout.{tables, stop_of, RowsLaid}
use Rattle.load_column.specs.Load.{Source, Fed, LoadedColumn}
use Rattle.load_column.specs.Blocks.{Kept, stored_block, block_at}
use Rattle.load_column.proofs.BodyLaws.{added, added-length}
use Rattle.load_column.proofs.SourceLaws.{kept, old_below, area-is}
use Rattle.load_column.proofs.ColumnLaws.{UpTo, on_inside, up_placed, up_blocks}
use Rattle.load_column.proofs.StoredLaws.{column-rises, stored_here, found_is, missing_is}

-- ---- the inverse

module _ (n : ℕ) (order : List ℕ) (p : Permutes n order) where
  pub inverse-holds : Inverse n order (inverse_of n order)
  unfolding inverse_of
  inverse-holds =
      let f : ℕ → ℕ = λ o. first (λ k. not (eqb (at order k) o)) 0 n in
      let l : length (map {A = ℕ} {B = ℕ} f (from 0 n)) ≡ n = length-map {A = ℕ} {B = ℕ} (from 0 n) f ∙ length_from 0 n in
      inverse-of n order p (map {A = ℕ} {B = ℕ} f (from 0 n)) l
      (λ i h.
      let o = at order i in
      let b = below_at n order p i h in
      let z : 0 + o ≡ o = omega arith in
      get_or_any (map {A = ℕ} {B = ℕ} f (from 0 n)) o 0 (f 0) (omega (arith, l, b)) ∙ get_or-map {A = ℕ} {B = ℕ} f (from 0 n) o 0 ∙ ap f (get_or-from 0 n o b ∙ z)
      ∙ first-at (λ k. not (eqb (at order k) o)) 0 i n (omega arith) h
      (λ q a l. ap not (ne_eqb (at order q) o (λ e. let s = once-at order p.once q i (omega (arith, p.entries)) (omega (arith, p.entries)) e in absurd (omega arith))))
      (ap not (eq-eqb (at order i) o refl)))

-- ---- does A store it?

module _ {dims starts rows : List ℕ} {values : List Float} {bodies : List ℕ} (k : Kept dims starts rows values bodies) (row column : ℕ) (h : column < length dims) where
  in-column : (p : ℕ) → at starts column ≤ p → p < at starts (column + 1) → at (rows_in starts rows column) (p - at starts column) ≡ at rows p
  in-column p lo hi =
      let e : at starts column + (p - at starts column) ≡ p = omega arith in
      get_or-drop (at starts column) (take (at starts (column + 1)) rows) (p - at starts column) 0
      ∙ get_or-take (at starts (column + 1)) rows (at starts column + (p - at starts column)) 0 (omega arith) ∙ ap (at rows) e

  long : length (rows_in starts rows column) ≡ at starts (column + 1) - at starts column
  long = length-slice (at starts column) (at starts (column + 1)) rows (column-rises k row column h).inside.1

  pub found-listed : place_of starts rows row column < at starts (column + 1) → elem row (rows_in starts rows column) ≡ true
  unfolding place_of
  found-listed found =
      let p = place_of starts rows row column in
      let s = stored_here k row column h p refl found in
      let ge = first-ge (λ q. not (eqb (at rows q) row)) (at starts column) (at starts (column + 1)) in
      true_of (elem row (rows_in starts rows column))
      (subst (λ (x : ℕ). T (elem x (rows_in starts rows column))) (in-column p ge found ∙ s.here) (elem_at (rows_in starts rows column) (p - at starts column) (omega (arith, long))))

  pub missing-unlisted : at starts (column + 1) ≤ place_of starts rows row column → elem row (rows_in starts rows column) ≡ false
  unfolding place_of
  missing-unlisted h' =
      let lo = at starts column in
      false_of (elem row (rows_in starts rows column))
      (λ t.
      let r = place-of row (rows_in starts rows column) t in
      let i : r.0 < at starts (column + 1) - lo = omega (arith, r.1, long) in
      let z : lo + r.0 - lo ≡ r.0 = omega arith in
      let e : at rows (lo + r.0) ≡ row = sym (in-column (lo + r.0) (omega arith) (omega arith)) ∙ ap (at (rows_in starts rows column)) z ∙ r.2 in
      unlike (eqb (at rows (lo + r.0)) row) (eq-eqb (at rows (lo + r.0)) row e) (first-none (λ q. not (eqb (at rows q) row)) lo (at starts (column + 1)) h' (lo + r.0) (omega arith) (omega arith)))
    where
      unlike : (b : Bool) → b ≡ true → not b ≡ true → ⊥
      unlike b e n = differ (sym n ∙ ap not e)
        where
          differ : true ≡ false → ⊥
          differ q = subst T q tt

-- ---- the block of two new numbers

-- what the machine loads of block (i, j), from lists
abbrev machine_block : (i j size : ℕ) → (dims starts rows : List ℕ) → (values : List Float) → (order : List ℕ) → List Float
machine_block i j size dims starts rows values order =
    let row = max (at order i) (at order j) in
    let column = min (at order i) (at order j) in
    body_or size
    (cond (leb j i && elem row (rows_in starts rows column)) (some (added (permuted_body dims starts rows values (inverse_of (length dims) order) (place_of starts rows row column)))) none)

module _ {dims starts rows : List ℕ} {values : List Float} {bodies order sizes : List ℕ} (s : Source dims starts rows values bodies order sizes) (i j : ℕ) (hi : i < length dims) (hj : j < length dims) where
  abbrev row : ℕ
  row = max (at order i) (at order j)

  abbrev column : ℕ
  column = min (at order i) (at order j)

  abbrev place : ℕ
  place = place_of starts rows row column

  column-below : column < length dims
  column-below = let a = old_below s i hi in omega arith

  -- the two dimensions either way round
  area : at dims row * at dims column ≡ at sizes i * at sizes j
  area = ⊎_elim
      (λ (l : at order i < at order j).
      let g : row ≡ at order j = omega arith in
      let e : column ≡ at order i = omega arith in
      ap (λ (m : ℕ). at dims m * at dims column) g ∙ ap (λ (m : ℕ). at dims (at order j) * at dims m) e ∙ mul_comm (at dims (at order j)) (at dims (at order i)) ∙ sym (area-is s i j hi hj))
      (λ (l : at order j ≤ at order i).
      let g : row ≡ at order i = omega arith in
      let e : column ≡ at order j = omega arith in
      ap (λ (m : ℕ). at dims m * at dims column) g ∙ ap (λ (m : ℕ). at dims (at order i) * at dims m) e ∙ sym (area-is s i j hi hj))
      (lt-or-ge (at order i) (at order j))

  pub block-length : length (block_at dims starts rows values order i j) ≡ at sizes i * at sizes j
  unfolding block_at
  block-length = ⊎_elim found missing (lt-or-ge place (at starts (column + 1))) ∙ area
    where
      above : Bool
      above = ltb (at order i) (at order j)

      found : place < at starts (column + 1) → length (stored_block dims starts rows values above row column) ≡ at dims row * at dims column
      found h =
          let k = kept s in
          let b = stored_here k row column column-below place refl h in
          ap length (found_is k row column column-below place refl h above) ∙ added-length (landed above (at dims row) (at dims column) (body_at dims starts rows values place))
          ∙ landed-length (at dims row) (at dims column) (body_at dims starts rows values place) above
          (body-area dims starts rows values order place s.counted b.inside ∙ ap (λ (m : ℕ). at dims m * at dims (column_of starts (length dims) place)) b.here ∙ ap (λ (m : ℕ). at dims row * at dims m) b.of)

      missing : at starts (column + 1) ≤ place → length (stored_block dims starts rows values above row column) ≡ at dims row * at dims column
      missing h = ap length (missing_is (kept s) row column column-below place refl h above) ∙ length-replicate (at dims row * at dims column) nought

  module _ (le : j ≤ i) where
    -- A's block lands above the diagonal where the old numbers rise
    lands : Stored starts rows (length dims) row column place → lands_above starts rows (inverse_of (length dims) order) (length dims) place ≡ ltb (at order i) (at order j)
    lands b =
        let inv = inverse_of (length dims) order in
        let ip = inverse-holds (length dims) order s.permutes in
        let x = (ip.there i hi).1 in
        let y = (ip.there j hj).1 in
        ap (λ (m : ℕ). ltb (at inv m) (at inv (column_of starts (length dims) place))) b.here ∙ ap (λ (m : ℕ). ltb (at inv row) (at inv m)) b.of
        ∙ ⊎_elim
        (λ (l : at order i < at order j).
        let g : row ≡ at order j = omega arith in
        let e : column ≡ at order i = omega arith in
        let apart : (i ≡ j → ⊥) = λ q. let z = ap (at order) q in omega arith in
        ap (λ (m : ℕ). ltb (at inv m) (at inv column)) g ∙ ap (λ (m : ℕ). ltb (at inv (at order j)) (at inv m)) e
        ∙ lt-ltb (at inv (at order j)) (at inv (at order i)) (omega (arith, x, y)) ∙ sym (lt-ltb (at order i) (at order j) l))
        (λ (l : at order j ≤ at order i).
        let g : row ≡ at order i = omega arith in
        let e : column ≡ at order j = omega arith in
        ap (λ (m : ℕ). ltb (at inv m) (at inv column)) g ∙ ap (λ (m : ℕ). ltb (at inv (at order i)) (at inv m)) e
        ∙ le-ltb (at inv (at order i)) (at inv (at order j)) (omega (arith, x, y)) ∙ sym (le-ltb (at order i) (at order j) l))
        (lt-or-ge (at order i) (at order j))

    permuted-is : Stored starts rows (length dims) row column place
        → landed (ltb (at order i) (at order j)) (at dims row) (at dims column) (body_at dims starts rows values place) ≡ permuted_body dims starts rows values (inverse_of (length dims) order) place
    unfolding permuted_body
    permuted-is b =
        let body = body_at dims starts rows values place in
        ap (λ (x : Bool). landed x (at dims row) (at dims column) body) (sym (lands b))
        ∙ ap (λ (m : ℕ). landed (lands_above starts rows (inverse_of (length dims) order) (length dims) place) (at dims m) (at dims column) body) (sym b.here)
        ∙ ap (λ (m : ℕ). landed (lands_above starts rows (inverse_of (length dims) order) (length dims) place) (at dims (at rows place)) (at dims m) body) (sym b.of)

    listed-is : block_at dims starts rows values order i j ≡ machine_block i j (at sizes i * at sizes j) dims starts rows values order
    unfolding block_at
    listed-is = ⊎_elim found missing (lt-or-ge place (at starts (column + 1)))
      where
        above : Bool
        above = ltb (at order i) (at order j)

        body : List Float
        body = added (permuted_body dims starts rows values (inverse_of (length dims) order) place)

        test : (x : Bool) → elem row (rows_in starts rows column) ≡ x → (leb j i && elem row (rows_in starts rows column)) ≡ x
        test x e = ap (λ (y : Bool). y && elem row (rows_in starts rows column)) (le-leb j i le) ∙ e

        found : place < at starts (column + 1) → stored_block dims starts rows values above row column ≡ machine_block i j (at sizes i * at sizes j) dims starts rows values order
        found h =
            let k = kept s in
            found_is k row column column-below place refl h above ∙ ap added (permuted-is (stored_here k row column column-below place refl h))
            ∙ sym (ap (λ (x : Bool). body_or (at sizes i * at sizes j) (cond x (some body) none)) (test true (found-listed k row column column-below h)))

        missing : at starts (column + 1) ≤ place → stored_block dims starts rows values above row column ≡ machine_block i j (at sizes i * at sizes j) dims starts rows values order
        missing h =
            let k = kept s in
            missing_is k row column column-below place refl h above ∙ ap zeros area
            ∙ sym (ap (λ (x : Bool). body_or (at sizes i * at sizes j) (cond x (some body) none)) (test false (missing-unlisted k row column column-below h)))

    pub block-is : (a : System) → Fed a dims starts rows values order → block_at dims starts rows values order i j ≡ body_or (at sizes i * at sizes j) (loaded_row a j i)
    unfolding loaded
    block-is a f =
        let m = machine_block i j (at sizes i * at sizes j) in
        listed-is ∙ ap (λ (l : List ℕ). m l starts rows values order) (sym f.by_dims) ∙ ap (λ (l : List ℕ). m a.dims l rows values order) (sym f.by_starts)
        ∙ ap (λ (l : List ℕ). m a.dims a.starts l values order) (sym f.by_rows) ∙ ap (λ (l : List Float). m a.dims a.starts a.rows l order) (sym f.by_values)
        ∙ ap (λ (l : List ℕ). m a.dims a.starts a.rows a.values l) (sym f.by_order)

-- ---- the column

module _ {dims starts rows : List ℕ} {values : List Float} {bodies order sizes l_starts l_rows l_offsets : List ℕ} {v m j u : ℕ} {places : List ℕ} {c : List Float} where
  pub column-loaded : Source dims starts rows values bodies order sizes → RowsLaid (tables sizes l_starts l_rows l_offsets) (length dims) v m → j < length dims
      → stop_of (tables sizes l_starts l_rows l_offsets) j ≤ u → UpTo (tables sizes l_starts l_rows l_offsets) j (λ i. block_at dims starts rows values order i j) places c u
      → (a : System) → Fed a dims starts rows values order → LoadedColumn (tables sizes l_starts l_rows l_offsets) a j places c
  column-loaded s laid h all up a f =
      let t = tables sizes l_starts l_rows l_offsets in
      record {
        placed = up_placed t j laid h all up;
        blocks = λ i e. let o = on_inside t j laid h i e in up_blocks t j laid h all up i e ∙ block-is s i j o.1 h o.0 a f;
      }
