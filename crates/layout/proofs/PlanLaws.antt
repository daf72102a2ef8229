-- The tables of a plan are good, and their columns are those of L: for links that go both ways.
--     plan_columns   columns of rows past the diagonal, ascending
--     plan_rows      the rows of a column are the ones that symbolic elimination gives
--     plan_numbers   the areas sum up to the numbers of L
--     plan-stored    as many rows as L stores blocks
--     plan_few       at most 8,386,560 of them
-- Assumes nothing.
use Rattle.std.specs.Prelude.{◌≡◌, ℕ, zero, suc, ◌+◌, ◌-◌, ◌*◌, ◌<◌, ◌≤◌, Bool, T, List, length}
use mathlib.Core.Path.{sym, ap, ap₂, subst, ◌∙◌}
use native.Mathlib.Omega.{arith}
use native.Mathlib.Numerals.{add-one}
use lib.ListN.{length-map, get_or-map}
use Rattle.graph.specs.Sets.{elem, from, between, gather, Inc}
use Rattle.graph.specs.Sets as list
use Rattle.graph.specs.Links.{rows_in}
use Rattle.graph.specs.Symbolic.{rows}
use Rattle.graph.proofs.SumLaws.{length-gather}
use Rattle.graph.proofs.SymbolicLaws.{rows_right, rows_ascending}
use Rattle.graph.proofs.BoundLaws.{rows_short}
use Rattle.buckets.proofs.Lists.{get_or_any, elem_at}
use Rattle.buckets.proofs.Laws.{sum-snoc}
use Rattle.order.proofs.Laws.{length_from, get_or-from}
use Rattle.tables.specs.Search.{sum}
use Rattle.tables.specs.Verdict.{at, block_area, area_at, areas, column_of, past_diagonal}
use Rattle.tables.specs.Sound.{Ordered, Columns}
use Rattle.tables.proofs.SearchLaws.{sum-end, sum_same, sum-split}
use Rattle.tables.proofs.ColumnLaws.{column-is, in_some}
use Rattle.tables.proofs.TableLaws.{stored-limit}
use Rattle.symbolic.specs.Columns.{area, numbers_of}
use Rattle.analysis.specs.Plan.{stored_of, starts_of, rows_of}
use Rattle.block_product.specs.Working.{slot}
use Rattle.block_product.proofs.SlotLaws.{at_slot}
use Rattle.layout.specs.Layout.{tables, rows_at}
use Rattle.layout.proofs.Gathered.{gather-slot, sum-slot}
use Rattle.layout.proofs.RowLaws.{rows-slot, inc-rises}

module _ (linked : ℕ → ℕ → Bool) (n : ℕ) (symm : (a b : ℕ) → T (linked a b) → T (linked b a)) where
  -- where column k begins
  abbrev start : ℕ → ℕ
  start k = list.sum (from 0 k) (λ c. length (rows linked n c))

  nought : (k : ℕ) → k - 0 ≡ k
  nought k = omega arith

  start-at : (k : ℕ) → k ≤ n → at (starts_of linked n) k ≡ start k
  start-at k h =
      let f : ℕ → ℕ = λ k. list.sum (between 0 k) (λ c. length (rows linked n c)) in
      let l = length-map {A = ℕ} {B = ℕ} (from 0 (suc n)) f ∙ length_from 0 (suc n) in
      let z : 0 + k ≡ k = omega arith in
      get_or_any (starts_of linked n) k 0 (f 0) (omega arith) ∙ get_or-map {A = ℕ} {B = ℕ} f (from 0 (suc n)) k 0
      ∙ ap f (get_or-from 0 (suc n) k (omega arith) ∙ z) ∙ ap (λ (m : ℕ). list.sum (from 0 m) (λ c. length (rows linked n c))) (nought k)

  start-next : (k : ℕ) → start (k + 1) ≡ start k + length (rows linked n k)
  start-next k =
      let z : 0 + k ≡ k = omega arith in
      ap start (add-one k) ∙ sum-snoc (λ c. length (rows linked n c)) 0 k ∙ ap (λ (m : ℕ). start k + length (rows linked n m)) z

  rows_whole : rows_of linked n ≡ gather (rows linked n) (from 0 n)
  rows_whole = ap (λ (m : ℕ). gather (rows linked n) (from 0 m)) (nought n)

  pub plan-stored : length (rows_of linked n) ≡ stored_of linked n
  plan-stored = length-gather (rows linked n) (between 0 n)

  all-rows : length (rows_of linked n) ≡ start n
  all-rows = plan-stored ∙ ap start (nought n)

  module _ (k : ℕ) (h : k < n) where
    starts-next : at (starts_of linked n) (k + 1) ≡ at (starts_of linked n) k + length (rows linked n k)
    starts-next = omega (arith, start-at (k + 1) (omega arith), start-at k (omega arith), start-next k)

    column : slot (at (starts_of linked n) k) (at (starts_of linked n) (k + 1) - at (starts_of linked n) k) (rows_of linked n) ≡ rows linked n k
    column =
        let e : at (starts_of linked n) (k + 1) - at (starts_of linked n) k ≡ length (rows linked n k) = omega (arith, starts-next) in
        ap (λ (m : ℕ). slot (at (starts_of linked n) k) m (rows_of linked n)) e
        ∙ ap (λ (m : ℕ). slot m (length (rows linked n k)) (rows_of linked n)) (start-at k (omega arith))
        ∙ ap (slot (start k) (length (rows linked n k))) rows_whole ∙ gather-slot (rows linked n) n k h

    listed : rows_in (starts_of linked n) (rows_of linked n) k ≡ rows linked n k
    listed = rows-slot (starts_of linked n) (rows_of linked n) k ∙ column

    -- its rows by their places
    row_at : (p : ℕ) → at (starts_of linked n) k ≤ p → p < at (starts_of linked n) (k + 1) → at (rows_of linked n) p ≡ at (rows linked n k) (p - at (starts_of linked n) k)
    row_at p lo hi =
        let s = at (starts_of linked n) k in
        let e : s + (p - s) ≡ p = omega arith in
        ap (at (rows_of linked n)) (sym e) ∙ sym (at_slot (rows_of linked n) s (at (starts_of linked n) (k + 1) - s) (p - s) (omega arith)) ∙ ap (λ (l : List ℕ). at l (p - s)) column

    member : (i : ℕ) → T (elem i (rows linked n k)) → (k + 1 ≤ i) × (i < n)
    member i m = let r = (rows_right linked n symm k h).sound i m in (omega (arith, r.0), r.1)

  rise-by : (d j : ℕ) → j + d ≡ n → at (starts_of linked n) j ≤ length (rows_of linked n)
  rise-by zero j e = omega (arith, start-at j (omega arith), all-rows, ap start (whole j e))
    where
      whole : (j : ℕ) → j + 0 ≡ n → j ≡ n
      whole j e = omega arith
  rise-by (suc d) j e = omega (arith, starts-next j (omega arith), rise-by d (j + 1) (omega arith))

  ordered : Ordered (starts_of linked n) n (length (rows_of linked n))
  ordered =
      record {
        entries = length-map {A = ℕ} {B = ℕ} (from 0 (suc n)) (λ k. list.sum (between 0 k) (λ c. length (rows linked n c))) ∙ length_from 0 (suc n) ∙ sym (add-one n);
        begins = start-at 0 (omega arith);
        rising = λ j h. omega (arith, starts-next j h);
        ends = start-at n (omega arith) ∙ sym all-rows;
        inside = λ j h. rise-by (n - j) j (omega arith);
      }

  module _ (j : ℕ) (h : j < n) where
    ranged : (p : ℕ) → at (starts_of linked n) j ≤ p → p < at (starts_of linked n) (j + 1) → (j + 1 ≤ at (rows_of linked n) p) × (at (rows_of linked n) p < n)
    ranged p lo hi =
        let s = starts-next j h in
        rw (row_at j h p lo hi) (member j h (at (rows linked n j) (p - at (starts_of linked n) j)) (elem_at (rows linked n j) (p - at (starts_of linked n) j) (omega arith)))

    rises : (p q : ℕ) → at (starts_of linked n) j ≤ p → p < q → q < at (starts_of linked n) (j + 1) → at (rows_of linked n) p < at (rows_of linked n) q
    rises p q lo less hi =
        let s = starts-next j h in
        rw (row_at j h p lo (omega arith), row_at j h q (omega arith) hi)
        (inc-rises (rows linked n j) (rows_ascending linked n symm j h) (p - at (starts_of linked n) j) (q - at (starts_of linked n) j) (omega arith) (omega arith))

  pub plan_columns : Columns past_diagonal n (starts_of linked n) (rows_of linked n)
  plan_columns =
      record {
        ordered = ordered;
        ranged = λ j p h. ranged j h p;
        members = λ j row h m. member j h row (subst (λ (l : List ℕ). T (elem row l)) (listed j h) m);
        rises = λ j p q h. rises j h p q;
        increasing = λ j h. subst Inc (sym (listed j h)) (rows_ascending linked n symm j h);
        short = λ j h. omega (arith, starts-next j h, rows_short linked n symm j h);
        below = λ p h. in_some ordered p (at (rows_of linked n) p < n) h (λ j l lo hi. (ranged j l p lo hi).1);
      }

  pub plan_rows : (sizes offs : List ℕ) (k : ℕ) → k < n → rows_at (tables sizes (starts_of linked n) (rows_of linked n) offs) k ≡ rows linked n k
  plan_rows sizes offs k h = column k h

  pub plan_few : n ≤ 4096 → length (rows_of linked n) ≤ 8386560
  plan_few h = stored-limit plan_columns h

  -- ---- the numbers of L

  module _ (sizes : List ℕ) (e : length sizes ≡ n) where
    abbrev area_of : ℕ → ℕ
    area_of = area_at sizes (starts_of linked n) (rows_of linked n)

    -- of column k
    column-numbers : (k : ℕ) → k < n → sum area_of (at (starts_of linked n) k) (at (starts_of linked n) (k + 1)) ≡ list.sum (rows linked n k) (λ i. area sizes i k)
    unfolding block_area
    column-numbers k h =
        let lo = at (starts_of linked n) k in
        let hi = at (starts_of linked n) (k + 1) in
        let up = ordered.rising k h in
        let b : lo + (hi - lo) ≡ hi = omega arith in
        sum_same area_of (λ p. area sizes (at (rows_of linked n) p) k) lo hi up
        (λ p p1 p2. ap (λ (j : ℕ). at sizes (at (rows_of linked n) p) * at sizes j) (ap (λ (m : ℕ). column_of (starts_of linked n) m p) e ∙ column-is ordered k p h p1 p2))
        ∙ ap (sum (λ p. area sizes (at (rows_of linked n) p) k) lo) (sym b)
        ∙ sum-slot (rows_of linked n) (λ i. area sizes i k) lo (hi - lo) (omega (arith, ordered.inside (k + 1) (omega arith)))
        ∙ ap (λ (l : List ℕ). list.sum l (λ i. area sizes i k)) (column k h)

    -- of the columns before column k
    numbers-before : (k : ℕ) → k ≤ n → sum area_of 0 (at (starts_of linked n) k) ≡ list.sum (from 0 k) (λ k. list.sum (rows linked n k) (λ i. area sizes i k))
    numbers-before zero h = sum-end area_of 0 0 (omega arith)
    numbers-before (suc k) h =
        let f : ℕ → ℕ = λ k. list.sum (rows linked n k) (λ i. area sizes i k) in
        let z : 0 + k ≡ k = omega arith in
        ap (λ (m : ℕ). sum area_of 0 (at (starts_of linked n) m)) (sym (add-one k))
        ∙ sym (sum-split area_of 0 (at (starts_of linked n) k) (at (starts_of linked n) (k + 1)) (omega arith) (ordered.rising k h))
        ∙ ap₂ ◌+◌ (numbers-before k (omega arith)) (column-numbers k h ∙ ap f (sym z)) ∙ sym (sum-snoc f 0 k)

    pub plan_numbers : areas sizes (starts_of linked n) (rows_of linked n) ≡ numbers_of linked n sizes
    plan_numbers = ap (sum area_of 0) (sym ordered.ends) ∙ numbers-before n (omega arith) ∙ ap (λ (m : ℕ). list.sum (from 0 m) (λ k. list.sum (rows linked n k) (λ i. area sizes i k))) (sym (nought n))
