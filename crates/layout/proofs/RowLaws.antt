-- Where the blocks of L lie, from its tables, and those of the column being worked.
--     rows-slot       the rows of a column are a slot of the row table
--     rows-laid       every body of L lies in its values, no two overlap, and every column packed lies in the working column
--     area-is         the area at a place of column k is that of its row and of k
--     inc-rises       an ascending list by its places; rows-rise, the same of a column's rows
--     row-place       a row of a column has a place
--     on-places       a block of the working column is the diagonal one, or a row of L at its place
--     apart           its blocks lie apart
--     on_inside       and inside
-- Assumes nothing.
use Rattle.std.specs.Prelude.{◌≡◌, ℕ, zero, suc, ◌+◌, ◌-◌, ◌*◌, ◌<◌, ◌≤◌, T, ◌⊎◌, List, [], ◌∷◌, length}
use mathlib.Core.Logic.{inl, inr, ⊎_elim}
use mathlib.Core.Path.{refl, sym, ap, subst, ◌∙◌}
use native.Mathlib.Nat.{eq-or-lt_of_le, add-mul, mul-le-mul_left, mul-le-mul_right}
use native.Mathlib.Omega.{arith}
use Rattle.graph.specs.Sets.{elem, Inc}
use Rattle.graph.specs.Links.{rows_in}
use Rattle.graph.proofs.SetLaws.{elem-cases}
use Rattle.buckets.specs.Buckets.{before}
use Rattle.buckets.proofs.Lists.{part_slice, elem_at}
use Rattle.buckets.proofs.Turns.{before-next}
use Rattle.order.proofs.Laws.{place-of}
use Rattle.tables.specs.Search.{sum}
use Rattle.tables.specs.Verdict.{at, block_area, area_at, areas, past_diagonal}
use Rattle.tables.specs.Sound.{Sizes, Columns}
use Rattle.tables.proofs.SearchLaws.{lt-or-ge, sum-end, sum-next, sum-split}
use Rattle.tables.proofs.ColumnLaws.{starts-rise, column-is}
use Rattle.scalars.specs.Bodies.{offsets}
use Rattle.scalars.proofs.ScalarLaws.{runs-apart}
use Rattle.scalars.proofs.BodyLaws.{offset-next, length-offsets, offsets-at}
use Rattle.block_product.specs.Working.{slot, Apart}
use Rattle.block_product.proofs.SlotLaws.{at_slot, slot-length}
use Rattle.layout.specs.Layout.{Tables, tables_of, side, start_of, stop_of, rows_at, on_at, RowsLaid, Placed, widest, work_need}
use Rattle.layout.proofs.DiagonalLaws.{widest-at}

-- ---- sums

before-rises : (sizes : List ℕ) (a b : ℕ) → a ≤ b → before sizes a ≤ before sizes b
before-rises sizes a b h = ⊎_elim (λ (e : a ≡ b). rw e (omega arith)) (λ (l : a < b). omega (arith, runs-apart sizes a b l)) (eq-or-lt_of_le h)

-- ---- the rows of a column

pub rows-slot : (starts rows : List ℕ) (k : ℕ) → rows_in starts rows k ≡ slot (at starts k) (at starts (k + 1) - at starts k) rows
rows-slot starts rows k = sym (part_slice rows (at starts k) (at starts (k + 1)))

-- ---- L's values

module _ (sizes l_starts l_rows : List ℕ) where
  abbrev n : ℕ
  n = length sizes

  abbrev t : Tables
  t = tables_of sizes l_starts l_rows

  module _ (c : Columns past_diagonal (length sizes) l_starts l_rows) (k : ℕ) (h : k < n) where
    -- the area of a row of column k
    pub area-is : (u : ℕ) → start_of t k ≤ u → u < stop_of t k → area_at sizes l_starts l_rows u ≡ side t (at l_rows u) * side t k
    unfolding block_area
    area-is u lo hi = ap (λ (j : ℕ). at sizes (at l_rows u) * at sizes j) (column-is c.ordered k u h lo hi)

    place-below : (u : ℕ) → u < stop_of t k → u < length l_rows
    place-below u hi = omega (arith, c.ordered.inside (k + 1) (omega arith))

    body : (u v : ℕ) → start_of t k ≤ u → u < stop_of t k → u < v → v ≤ length l_rows → at (offsets sizes l_starts l_rows) u + side t (at l_rows u) * side t k ≤ at (offsets sizes l_starts l_rows) v
    body u v lo hi less in' =
        let b = place-below u hi in
        omega (arith, offsets-at sizes l_starts l_rows u (omega arith), offsets-at sizes l_starts l_rows v in', offset-next sizes l_starts l_rows u, area-is u lo hi, sum-split (area_at sizes l_starts l_rows) 0 (u + 1) v (omega arith) (omega arith))

    -- The rows of column k from place u on are distinct and not below a, so the blocks of these rows are no taller together than
    -- the blocks from a on.
    stacked : (m u a : ℕ) → u + m ≡ stop_of t k → start_of t k ≤ u → a ≤ n → ((v : ℕ) → u ≤ v → v < stop_of t k → a ≤ at l_rows v)
        → before sizes a * side t k + sum (area_at sizes l_starts l_rows) u (stop_of t k) ≤ before sizes n * side t k
    stacked zero u a e lo le above =
        omega (arith, sum-end (area_at sizes l_starts l_rows) u (stop_of t k) (omega arith), mul-le-mul_right (side t k) (before-rises sizes a n le))
    stacked (suc m) u a e lo le above =
        let r = at l_rows u in
        let b = c.ranged k u h lo (omega arith) in
        let rest = stacked m (u + 1) (r + 1) (omega arith) (omega arith) (omega arith) (λ v p q. omega (arith, c.rises k u v h lo (omega arith) q)) in
        let up = mul-le-mul_right (side t k) (before-rises sizes a r (above u (omega arith) (omega arith))) in
        let one : before sizes (r + 1) * side t k ≡ before sizes r * side t k + side t r * side t k = ap (λ (x : ℕ). x * side t k) (before-next sizes r) ∙ add-mul (before sizes r) (side t r) (side t k) in
        omega (arith, area-is u lo (omega arith), sum-next (area_at sizes l_starts l_rows) u (stop_of t k) (omega arith))

    packed : side t k * side t k + (at (offsets sizes l_starts l_rows) (stop_of t k) - at (offsets sizes l_starts l_rows) (start_of t k)) ≤ work_need sizes
    packed =
        let up = c.ordered.rising k h in
        let in' = c.ordered.inside (k + 1) (omega arith) in
        let all = stacked (stop_of t k - start_of t k) (start_of t k) (k + 1) (omega arith) (omega arith) (omega arith) (λ v p q. (c.ranged k v h p q).0) in
        let own : side t k * side t k ≤ before sizes (k + 1) * side t k = mul-le-mul_right (side t k) (omega (arith, before-next sizes k)) in
        let wide : before sizes n * side t k ≤ before sizes n * widest sizes = mul-le-mul_left (before sizes n) (widest-at sizes k) in
        let from = offsets-at sizes l_starts l_rows (start_of t k) (omega arith) in
        let to = offsets-at sizes l_starts l_rows (stop_of t k) in' in
        let between = sum-split (area_at sizes l_starts l_rows) 0 (start_of t k) (stop_of t k) (omega arith) up in
        omega arith

  pub rows-laid : Sizes sizes → Columns past_diagonal (length sizes) l_starts l_rows → RowsLaid (tables_of sizes l_starts l_rows) (length sizes) (areas sizes l_starts l_rows) (work_need sizes)
  rows-laid s c =
      record {
        count = (refl, c.ordered.entries, length-offsets sizes l_starts l_rows);
        size = λ k h. (s.positive k h, s.small k);
        column = λ k h. (c.ordered.rising k h, c.ordered.inside (k + 1) (omega arith));
        after = λ k j h le. starts-rise c.ordered (k + 1) j (omega arith) le;
        row = λ k u h lo hi. let r = c.ranged k u h lo hi in (omega (arith, r.0), r.1);
        ascends = λ k h. subst Inc (rows-slot l_starts l_rows k) (c.increasing k h);
        body = λ k u v h. body c k h u v;
        bodies = omega (arith, offsets-at sizes l_starts l_rows (length l_rows) (omega arith));
        packed = packed c;
      }

-- ---- the working column

-- an ascending list by its places
pub inc-rises : (l : List ℕ) → Inc l → (i k : ℕ) → i < k → k < length l → at l i < at l k
inc-rises [] a i k h b = absurd (omega arith)
inc-rises (x ∷ l) a i zero h b = absurd (omega arith)
inc-rises (x ∷ l) a zero (suc k) h b = a.0 (at l k) (elem_at l k (omega arith))
inc-rises (x ∷ l) a (suc i) (suc k) h b = inc-rises l a.1 i k (omega arith) (omega arith)

module _ (t : Tables) {n v c : ℕ} (laid : RowsLaid t n v c) (j : ℕ) (h : j < n) where
  rows_long : length (rows_at t j) ≡ stop_of t j - start_of t j
  rows_long = let b = laid.column j h in slot-length t.l_rows (start_of t j) (stop_of t j - start_of t j) (omega arith)

  -- a row of the column has a place
  pub row-place : (i : ℕ) → T (elem i (rows_at t j)) → (u : ℕ) × (start_of t j ≤ u) × (u < stop_of t j) × (at t.l_rows u ≡ i)
  row-place i m =
      let r = place-of i (rows_at t j) m in
      let b : r.0 < stop_of t j - start_of t j = omega (arith, r.1, rows_long) in
      (start_of t j + r.0, omega arith, omega arith, sym (at_slot t.l_rows (start_of t j) (stop_of t j - start_of t j) r.0 b) ∙ r.2)

  pub on-places : (i : ℕ) → T (elem i (on_at t j)) → (i ≡ j) ⊎ ((u : ℕ) × (start_of t j ≤ u) × (u < stop_of t j) × (at t.l_rows u ≡ i))
  on-places i m = ⊎_elim (λ e. inl e) (λ r. inr (row-place i r)) (elem-cases i j (rows_at t j) m)

  -- the rows rise with their places
  pub rows-rise : (u w : ℕ) → start_of t j ≤ u → u < w → w < stop_of t j → at t.l_rows u < at t.l_rows w
  rows-rise u w lo less hi =
      let size = stop_of t j - start_of t j in
      let l = rows_long in
      let up = inc-rises (rows_at t j) (laid.ascends j h) (u - start_of t j) (w - start_of t j) (omega arith) (omega arith) in
      let a = at_slot t.l_rows (start_of t j) size (u - start_of t j) (omega arith) in
      let b = at_slot t.l_rows (start_of t j) size (w - start_of t j) (omega arith) in
      let x : start_of t j + (u - start_of t j) ≡ u = omega arith in
      let y : start_of t j + (w - start_of t j) ≡ w = omega arith in
      rw (a, b, x, y) at up

  module _ (places : List ℕ) (p : Placed t places j) where
    -- the first body of the column is not behind another
    first_body : (u : ℕ) → start_of t j ≤ u → u < stop_of t j → at t.l_offsets (start_of t j) ≤ at t.l_offsets u
    first_body u lo hi =
        ⊎_elim (λ (e : start_of t j ≡ u). rw e (omega arith))
        (λ (l : start_of t j < u). omega (arith, laid.body j (start_of t j) u h (omega arith) (omega arith) l (omega (arith, laid.column j h))))
        (eq-or-lt_of_le lo)

    -- the diagonal block ends before a row's begins
    own-apart : (w : ℕ) → start_of t j ≤ w → w < stop_of t j → at places j + side t j * side t j ≤ at places (at t.l_rows w)
    own-apart w lo hi = omega (arith, p.own, p.row w lo hi)

    -- a row's ends before a later one's begins
    row_apart : (u w : ℕ) → start_of t j ≤ u → u < w → w < stop_of t j → at places (at t.l_rows u) + side t (at t.l_rows u) * side t j ≤ at places (at t.l_rows w)
    row_apart u w lo less hi =
        omega (arith, p.row u lo (omega arith), p.row w (omega arith) hi, first_body u lo (omega arith), laid.body j u w h lo (omega arith) less (omega (arith, laid.column j h)))

    -- an earlier row stands at an earlier place
    earlier : (u w : ℕ) → start_of t j ≤ u → u < stop_of t j → start_of t j ≤ w → at t.l_rows u < at t.l_rows w → u < w
    earlier u w lo hi lo' less =
        ⊎_elim (λ (l : u < w). l)
        (λ (g : w ≤ u). ⊎_elim (λ (e : w ≡ u). let z = ap (at t.l_rows) e in absurd (omega arith)) (λ (l : w < u). absurd (omega (arith, rows-rise w u lo' l hi))) (eq-or-lt_of_le g))
        (lt-or-ge u w)

    pub apart : Apart (side t) (at places) (on_at t j) j
    apart a b ma mb less = by (on-places a ma) (on-places b mb)
      where
        by : (a ≡ j) ⊎ ((u : ℕ) × (start_of t j ≤ u) × (u < stop_of t j) × (at t.l_rows u ≡ a)) → (b ≡ j) ⊎ ((w : ℕ) × (start_of t j ≤ w) × (w < stop_of t j) × (at t.l_rows w ≡ b))
            → at places a + side t a * side t j ≤ at places b
        by (inl e) (inl f) = absurd (omega arith)
        by (inl e) (inr (w, lo, hi, f)) = rw (e, ← f) (own-apart w lo hi)
        by (inr (u, lo, hi, e)) (inl f) = absurd (omega (arith, laid.row j u h lo hi))
        by (inr (u, lo, hi, e)) (inr (w, lo', hi', f)) =
            rw (← e, ← f) (row_apart u w lo (earlier u w lo hi lo' (omega arith)) hi')

    row_inside : (u : ℕ) → start_of t j ≤ u → u < stop_of t j → at places (at t.l_rows u) + side t (at t.l_rows u) * side t j ≤ c
    row_inside u lo hi =
        omega (arith, p.row u lo hi, first_body u lo hi, laid.body j u (stop_of t j) h lo hi hi (laid.column j h).1, laid.packed j h)

    pub on_inside : (i : ℕ) → T (elem i (on_at t j)) → (at places i + side t i * side t j ≤ c) × (i < n)
    on_inside i m = by (on-places i m)
      where
        by : (i ≡ j) ⊎ ((u : ℕ) × (start_of t j ≤ u) × (u < stop_of t j) × (at t.l_rows u ≡ i)) → (at places i + side t i * side t j ≤ c) × (i < n)
        by (inl e) = rw e (omega (arith, p.own, laid.packed j h), h)
        by (inr (u, lo, hi, e)) = rw (← e) (row_inside u lo hi, (laid.row j u h lo hi).1)
