-- The bodies of A's blocks lie one behind the other and fill the values; the transpose of a body by its entries. Assumes nothing.
use Rattle.std.specs.Prelude.{◌≡◌, ℕ, zero, suc, ◌+◌, ◌-◌, ◌*◌, ◌<◌, ◌≤◌, Bool, true, false, List, map, length, get_or, take, drop, set}
use mathlib.Core.Path.{refl, sym, ap, ◌∙◌}
use native.Mathlib.Nat.{suc-mul, mul_comm}
use native.Mathlib.Omega.{arith}
use lib.Ieee.{Float, nan}
use lib.ListN.{length-append, length-drop, length-map, get_or-append, get_or-map}
use lib.Seq.{get_or-append-add, length-take-le}
use Rattle.graph.specs.Sets.{from, gather}
use Rattle.buckets.proofs.Lists.{get_or_any}
use Rattle.order.proofs.Laws.{length_from, get_or-from}
use Rattle.scalar.specs.Block as block
use Rattle.scalar.proofs.Laws.{column}
use Rattle.tables.specs.Verdict.{at, block_area, area_at, areas, column_of}
use Rattle.tables.specs.Sound.{Measured}
use Rattle.tables.proofs.SearchLaws.{sum-next, sum-end, sum-split}
use Rattle.tables.proofs.ColumnLaws.{column-is}
use Rattle.tables.proofs.AreaLaws.{areas-le}
use Rattle.scalars.specs.Bodies.{offset_at, offsets, body_at, transposed, landed, lands_above, permuted_body}
use Rattle.scalars.proofs.Filling.{Filled, filled_more}

-- ---- where they lie

module _ (dims starts rows : List ℕ) where
  -- one behind the other
  pub offset-first : offset_at dims starts rows 0 ≡ 0
  offset-first = sum-end (area_at dims starts rows) 0 0 (omega arith)

  pub offset-next : (p : ℕ) → offset_at dims starts rows (p + 1) ≡ offset_at dims starts rows p + area_at dims starts rows p
  offset-next p =
      let f = area_at dims starts rows in
      let s = sum-split f 0 p (p + 1) (omega arith) (omega arith) in
      let n = sum-next f p (p + 1) (omega arith) in
      let e = sum-end f (p + 1) (p + 1) (omega arith) in
      omega arith

  -- and the last ends where the values do, as check 7 demands
  pub offset-last : offset_at dims starts rows (length rows) ≡ areas dims starts rows
  offset-last = refl

  pub body-inside : (p : ℕ) → p < length rows → offset_at dims starts rows p + area_at dims starts rows p ≤ areas dims starts rows
  body-inside p h =
      let n = offset-next p in
      let s = sum-split (area_at dims starts rows) 0 (p + 1) (length rows) (omega arith) (omega arith) in
      omega arith

  pub body-length : (values : List Float) (p : ℕ) → length values ≡ areas dims starts rows → p < length rows → length (body_at dims starts rows values p) ≡ area_at dims starts rows p
  body-length values p l h =
      let i = body-inside p h in
      let d = length-drop (offset_at dims starts rows p) values in
      length-take-le (area_at dims starts rows p) (drop (offset_at dims starts rows p) values) (omega arith)

  -- the table of offsets
  pub length-offsets : length (offsets dims starts rows) ≡ length rows + 1
  unfolding offsets
  length-offsets = length-map {A = ℕ} {B = ℕ} (from 0 (length rows + 1)) (offset_at dims starts rows) ∙ length_from 0 (length rows + 1)

  pub offsets-at : (p : ℕ) → p ≤ length rows → get_or (offsets dims starts rows) p 0 ≡ offset_at dims starts rows p
  unfolding offsets
  offsets-at p h =
      let l = length-offsets in
      get_or_any (offsets dims starts rows) p 0 (offset_at dims starts rows 0) (omega arith) ∙ get_or-map {A = ℕ} {B = ℕ} (offset_at dims starts rows) (from 0 (length rows + 1)) p 0
      ∙ ap (offset_at dims starts rows) (get_or-from 0 (length rows + 1) p (omega arith) ∙ omega arith)

  -- a body is what lies between two of them
  pub body-between : (values : List Float) (p : ℕ) → p < length rows
      → body_at dims starts rows values p ≡ take (get_or (offsets dims starts rows) (p + 1) 0 - get_or (offsets dims starts rows) p 0) (drop (get_or (offsets dims starts rows) p 0) values)
  body-between values p h =
      let a = offsets-at p (omega arith) in
      let b = offsets-at (p + 1) (omega arith) in
      let n = offset-next p in
      let e : area_at dims starts rows p ≡ get_or (offsets dims starts rows) (p + 1) 0 - get_or (offsets dims starts rows) p 0 = omega arith in
      ap (λ (m : ℕ). take m (drop (offset_at dims starts rows p) values)) e ∙ ap (λ (m : ℕ). take (get_or (offsets dims starts rows) (p + 1) 0 - get_or (offsets dims starts rows) p 0) (drop m values)) (sym a)

-- ---- the loop that writes the offsets

module _ {dims starts rows : List ℕ} (m : Measured dims starts rows) (few : length rows < 16777216) where
  -- the sums stay small
  pub offset-small : (p : ℕ) → p ≤ length rows → offset_at dims starts rows p ≤ 4294967040
  offset-small p h =
      let s = sum-split (area_at dims starts rows) 0 p (length rows) (omega arith) h in
      let a = areas-le dims rows m.sizes starts in
      omega arith

  -- in column j
  module _ (j p : ℕ) (h : j < length dims) (lo : at starts j ≤ p) (hi : p < at starts (j + 1)) where
    pub place-below : p < length rows
    place-below = let i = m.ordered.inside (j + 1) (omega arith) in omega arith

    area-is : block_area dims rows (at dims j) p ≡ area_at dims starts rows p
    area-is = ap (λ (c : ℕ). block_area dims rows (at dims c) p) (sym (column-is m.ordered j p h lo hi))

    module _ {out : List ℕ} (sum : ℕ) (f : Filled (offsets dims starts rows) out p) (s : sum ≡ offset_at dims starts rows p) where
      pub offset-turn : Filled (offsets dims starts rows) (set out p sum) (p + 1)
      offset-turn =
          let l = length-offsets dims starts rows in
          let b = place-below in
          filled_more (offsets dims starts rows) out p f 0 sum (omega arith) (offsets-at dims starts rows p (omega arith) ∙ sym s)

      pub offset-sum : (area : ℕ) → area ≡ block_area dims rows (at dims j) p → sum + area ≡ offset_at dims starts rows (p + 1)
      offset-sum area e = let n = offset-next dims starts rows p in let a = e ∙ area-is in omega arith

-- ---- the transpose

module _ (h w : ℕ) (body : List Float) where
  abbrev row : ℕ → List Float
  row r = map {A = ℕ} {B = Float} (λ c. block.at body h r c) (from 0 w)

  length-row : (r : ℕ) → length (row r) ≡ w
  length-row r = length-map {A = ℕ} {B = Float} (from 0 w) (λ c. block.at body h r c) ∙ length_from 0 w

  row_at : (r c : ℕ) → c < w → get_or (row r) c nan ≡ block.at body h r c
  row_at r c k =
      let l = length-row r in
      get_or_any (row r) c nan (block.at body h r 0) (omega arith) ∙ get_or-map {A = ℕ} {B = Float} (λ c. block.at body h r c) (from 0 w) c 0
      ∙ ap (λ (m : ℕ). block.at body h r m) (get_or-from 0 w c k ∙ omega arith)

  rows-length : (a n : ℕ) → length (gather {A = Float} row (from a n)) ≡ n * w
  rows-length a zero = sym (omega arith)
  rows-length a (suc n) = let i = rows-length (suc a) n in let l = length-row a in let s = suc-mul n w in length-append (row a) (gather {A = Float} row (from (suc a) n)) ∙ omega arith

  rows_at : (a n r c : ℕ) → r < n → c < w → get_or (gather {A = Float} row (from a n)) (c + r * w) nan ≡ block.at body h (a + r) c
  rows_at a zero r c i k = absurd (omega arith)
  rows_at a (suc n) zero c i k =
      let l = length-row a in
      let e : c + 0 * w ≡ c = omega arith in
      let z : a + 0 ≡ a = omega arith in
      ap (λ (m : ℕ). get_or (gather {A = Float} row (from a (suc n))) m nan) e ∙ get_or-append (row a) (gather {A = Float} row (from (suc a) n)) nan c (omega arith) ∙ row_at a c k
      ∙ ap (λ (m : ℕ). block.at body h m c) (sym z)
  rows_at a (suc n) (suc r) c i k =
      let l = length-row a in
      let s = suc-mul r w in
      let e : c + suc r * w ≡ length (row a) + (c + r * w) = omega arith in
      let z : suc a + r ≡ a + suc r = omega arith in
      ap (λ (m : ℕ). get_or (gather {A = Float} row (from a (suc n))) m nan) e ∙ get_or-append-add (row a) (gather {A = Float} row (from (suc a) n)) (c + r * w) nan
      ∙ rows_at (suc a) n r c (omega arith) k ∙ ap (λ (m : ℕ). block.at body h m c) z

  -- as many numbers
  pub transposed-length : length (transposed h w body) ≡ h * w
  unfolding transposed
  transposed-length = rows-length 0 h

  -- the entry (r, c) stands at (c, r)
  pub transposed-at : (r c : ℕ) → r < h → c < w → block.at (transposed h w body) w c r ≡ block.at body h r c
  unfolding transposed
  transposed-at r c i k = let z : 0 + r ≡ r = omega arith in rows_at 0 h r c i k ∙ ap (λ (m : ℕ). block.at body h m c) z

  pub landed-length : (above : Bool) → length body ≡ h * w → length (landed above h w body) ≡ h * w
  landed-length true l = transposed-length
  landed-length false l = l

  -- ---- the loops that write it

  module _ (out : List Float) (place r c : ℕ) (f : Filled (transposed h w body) out place) (at : place ≡ c + r * w) (i : r < h) (k : c < w) where
    pub turned-inside : place < length (transposed h w body)
    turned-inside = let l = transposed-length in let q = column w h r i in let m = mul_comm w h in omega arith

    pub turned_turn : Filled (transposed h w body) (set out place (block.at body h r c)) (place + 1)
    turned_turn =
        filled_more (transposed h w body) out place f nan (block.at body h r c) turned-inside (ap (λ (m : ℕ). get_or (transposed h w body) m nan) at ∙ transposed-at r c i k)

-- ---- a stored block under new numbers

module _ (dims starts rows : List ℕ) (values : List Float) (inv : List ℕ) (p : ℕ) (counted : length values ≡ areas dims starts rows) (stored : p < length rows) where
  abbrev tall : ℕ
  tall = at dims (at rows p)

  abbrev wide : ℕ
  wide = at dims (column_of starts (length dims) p)

  pub body-area : length (body_at dims starts rows values p) ≡ tall * wide
  unfolding block_area
  body-area = body-length dims starts rows values p counted stored

  pub permuted-length : length (permuted_body dims starts rows values inv p) ≡ tall * wide
  unfolding permuted_body
  permuted-length = landed-length tall wide (body_at dims starts rows values p) (lands_above starts rows inv (length dims) p) body-area

  -- one that lands below the diagonal or on it stays as it is
  pub permuted-below : lands_above starts rows inv (length dims) p ≡ false → permuted_body dims starts rows values inv p ≡ body_at dims starts rows values p
  unfolding permuted_body
  permuted-below e = ap (λ (b : Bool). landed b tall wide (body_at dims starts rows values p)) e

  -- the entry (r, c) of one that lands above it stands at (c, r)
  pub permuted-above : lands_above starts rows inv (length dims) p ≡ true → (r c : ℕ) → r < tall → c < wide
      → block.at (permuted_body dims starts rows values inv p) wide c r ≡ block.at (body_at dims starts rows values p) tall r c
  unfolding permuted_body
  permuted-above e r c h k =
      ap (λ (b : Bool). block.at (landed b tall wide (body_at dims starts rows values p)) wide c r) e ∙ transposed-at tall wide (body_at dims starts rows values p) r c h k
