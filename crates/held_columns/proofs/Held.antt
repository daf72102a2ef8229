-- The flat lists that a factorization leaves hold the columns of the machine's last state: each block stands where the layout has it.
--     good          the columns of L's tables are good
--     units-long, pivots-long, values-long   how long each list is
--     holds         the lists hold the columns
-- Assumes nothing.
use Prim.Native.Nat.{ℕ, zero, suc, ◌+◌, ◌-◌, ◌*◌, ◌≤◌, ◌<◌}
use mathlib.Core.List.{List, ◌++◌}
use mathlib.Core.Path.{◌≡◌, refl, sym, ap, ap₂, subst, ◌∙◌}
use native.Mathlib.Numerals.{add-one}
use native.Mathlib.Omega.{arith}
use lib.Ieee.{Float}
use lib.ListN.{length, take}
use lib.Seq.{drop-cons}
use Rattle.graph.specs.Sets as list
use Rattle.graph.specs.Sets.{from, gather}
use Rattle.graph.specs.Order.{Permutes}
use Rattle.graph.proofs.SetLaws.{from-elim}
use Rattle.graph.proofs.OrderLaws.{moved-permutes}
use Rattle.tables.specs.Verdict.{at, column_of, area_at, areas, past_diagonal}
use Rattle.tables.specs.Sound.{Columns, SystemSound}
use Rattle.tables.proofs.ColumnLaws.{column-is, in_some}
use Rattle.graph.proofs.SumLaws.{length-gather}
use Rattle.buckets.proofs.Laws.{sum-snoc, nothing-before}
use Rattle.buckets.proofs.Turns.{before-next}
use Rattle.scalars.specs.Scalars.{scalar_starts, scalar_count}
use Rattle.scalars.proofs.ScalarLaws.{starts-at}
use Rattle.scalars.proofs.BodyLaws.{offset-first, offset-next, offsets-at, length-offsets}
use Rattle.layout.proofs.DiagonalLaws.{length-squares, squares-at}
use Rattle.machine.specs.System.{System, blocks, links, order}
use Rattle.machine.specs.Machine as machine
use Rattle.machine.specs.Machine.{State, column_at, going, run}
use Rattle.machine.proofs.ListLaws.{gather_ext}
use Rattle.machine.proofs.RunLaws.{links-symm, run_rows}
use Rattle.block_product.specs.Working.{slot}
use Rattle.block_product.proofs.SlotLaws.{gather-part}
use Rattle.layout.specs.Layout.{Tables, tables_of, start_of, stop_of, rows_at, squares, unit_starts_of, units_need}
use Rattle.layout.proofs.Gathered.{gather-slot, gather-runs}
use Rattle.layout.proofs.RowLaws.{area-is}
use Rattle.layout.proofs.PlanLaws.{plan_columns, plan_rows, plan-stored, plan_numbers}
use Rattle.factor_tables.proofs.NeedLaws.{same_units, same-scalars}
use Rattle.factor_tables.proofs.TableLaws.{sizes-count}
use Rattle.factor_setup.specs.Exact.{sizes, stored, numbers, l_starts, l_rows, l_offsets, values_after, units_after, pivots_after}
use Rattle.solution.specs.Flat.{HoldsColumns}
use Rattle.held_columns.proofs.Sized.{ColumnSized, run_sized}

-- of lists one behind the other, each stands where the sizes of those before it end
module _ (f : ℕ → List Float) (start size : ℕ → ℕ) (n : ℕ) (first : start 0 ≡ 0) (next : (u : ℕ) → u < n → start (u + 1) ≡ start u + size u) (long : (u : ℕ) → u < n → length (f u) ≡ size u) where
  lengths : (k : ℕ) → k ≤ n → list.sum (from 0 k) (λ i. length (f i)) ≡ start k
  lengths zero h = sym first
  lengths (suc k) h =
      let z : 0 + k ≡ k = omega arith in
      sum-snoc (λ i. length (f i)) 0 k ∙ (ap (λ (m : ℕ). list.sum (from 0 k) (λ i. length (f i)) + length (f m)) z
      ∙ (ap₂ ◌+◌ (lengths k (omega arith)) (long k h) ∙ (sym (next k h) ∙ ap start (add-one k))))

  stands : (k : ℕ) → k < n → slot (start k) (size k) (gather f (from 0 n)) ≡ f k
  stands k h =
      sym (ap (λ (m : ℕ). slot m (size k) (gather f (from 0 n))) (lengths k (omega arith)))
      ∙ (sym (ap (λ (m : ℕ). slot (list.sum (from 0 k) (λ i. length (f i))) m (gather f (from 0 n))) (long k h)) ∙ gather-slot f n k h)

  -- and together they are as long as the last one's end says
  all-long : length (gather f (from 0 n)) ≡ start n
  all-long = length-gather f (from 0 n) ∙ lengths n (omega arith)

module _ (a : System) (sound : SystemSound a.dims a.starts a.rows a.values a.perm a.late a.tol) (s : State) (runs : run a ≡ going s) where
  abbrev n : ℕ
  n = blocks a

  abbrev t : Tables
  t = tables_of (sizes a) (l_starts a) (l_rows a)

  pub permutes : Permutes n (order a)
  permutes = moved-permutes a.perm a.late n sound.plan.permutes

  long : length (sizes a) ≡ n
  long = sizes-count a.dims (order a) permutes

  pub good : Columns past_diagonal n (l_starts a) (l_rows a)
  good = plan_columns (links a) n (links-symm a)

  good-sizes : Columns past_diagonal (length (sizes a)) (l_starts a) (l_rows a)
  good-sizes = subst (λ (m : ℕ). Columns past_diagonal m (l_starts a) (l_rows a)) (sym long) good

  sized : (k : ℕ) → k < n → ColumnSized a k (column_at s k)
  sized = run_sized a sound s runs

  -- ---- the diagonal

  units-first : at (unit_starts_of (sizes a)) 0 ≡ 0
  units-first = starts-at (squares (sizes a)) 0 (omega arith) ∙ nothing-before (squares (sizes a))

  units-next : (u : ℕ) → u < n → at (unit_starts_of (sizes a)) (u + 1) ≡ at (unit_starts_of (sizes a)) u + at (sizes a) u * at (sizes a) u
  units-next u l =
      let many = length-squares (sizes a) in
      omega (arith, starts-at (squares (sizes a)) u (omega (arith, long)), starts-at (squares (sizes a)) (u + 1) (omega (arith, long)), before-next (squares (sizes a)) u, squares-at (sizes a) u)

  pivots-first : at (scalar_starts (sizes a)) 0 ≡ 0
  pivots-first = starts-at (sizes a) 0 (omega arith) ∙ nothing-before (sizes a)

  pivots-next : (u : ℕ) → u < n → at (scalar_starts (sizes a)) (u + 1) ≡ at (scalar_starts (sizes a)) u + at (sizes a) u
  pivots-next u l = omega (arith, starts-at (sizes a) u (omega (arith, long)), starts-at (sizes a) (u + 1) (omega (arith, long)), before-next (sizes a) u)

  unit-held : (k : ℕ) → k < n → slot (at (unit_starts_of (sizes a)) k) (at (sizes a) k * at (sizes a) k) (units_after a (going s)) ≡ (column_at s k).unit
  unit-held k h = stands (λ k. (column_at s k).unit) (at (unit_starts_of (sizes a))) (λ k. at (sizes a) k * at (sizes a) k) n units-first units-next (λ u l. (sized u l).of_unit) k h

  pub units-long : length (units_after a (going s)) ≡ units_need a.dims
  units-long =
      all-long (λ k. (column_at s k).unit) (at (unit_starts_of (sizes a))) (λ k. at (sizes a) k * at (sizes a) k) n units-first units-next (λ u l. (sized u l).of_unit)
      ∙ (ap (at (unit_starts_of (sizes a))) (sym (length-squares (sizes a) ∙ long)) ∙ (starts-at (squares (sizes a)) (length (squares (sizes a))) (omega arith) ∙ same_units a.dims (order a) permutes))

  d-held : (k : ℕ) → k < n → slot (at (scalar_starts (sizes a)) k) (at (sizes a) k) (pivots_after a (going s)) ≡ (column_at s k).d
  d-held k h = stands (λ k. (column_at s k).d) (at (scalar_starts (sizes a))) (at (sizes a)) n pivots-first pivots-next (λ u l. (sized u l).of_d) k h

  pub pivots-long : length (pivots_after a (going s)) ≡ scalar_count a.dims
  pivots-long =
      all-long (λ k. (column_at s k).d) (at (scalar_starts (sizes a))) (at (sizes a)) n pivots-first pivots-next (λ u l. (sized u l).of_d)
      ∙ (ap (at (scalar_starts (sizes a))) (sym long) ∙ (starts-at (sizes a) (length (sizes a)) (omega arith) ∙ same-scalars a.dims (order a) permutes))

  -- ---- L's bodies

  -- the body at place u of the row table
  abbrev body_at : ℕ → List Float
  body_at u = (column_at s (column_of (l_starts a) n u)).body (at (l_rows a) u)

  -- in column k
  body-in : (k u : ℕ) → k < n → start_of t k ≤ u → u < stop_of t k → body_at u ≡ (column_at s k).body (at (l_rows a) u)
  body-in k u h lo hi = ap (λ (c : ℕ). (column_at s c).body (at (l_rows a) u)) (column-is good.ordered k u h lo hi)

  column-values : (k : ℕ) → k < n → gather (column_at s k).body (machine.rows_at s k) ≡ gather body_at (from (start_of t k) (stop_of t k - start_of t k))
  column-values k h =
      let up = good.ordered.rising k h in
      let in' = good.ordered.inside (k + 1) (omega arith) in
      ap (gather (column_at s k).body) (run_rows a s runs k ∙ sym (plan_rows (links a) n (links-symm a) (sizes a) (l_offsets a) k h))
      ∙ (sym (gather-part (column_at s k).body (l_rows a) (start_of t k) (stop_of t k - start_of t k) (omega arith))
      ∙ gather_ext (λ u. (column_at s k).body (at (l_rows a) u)) body_at (from (start_of t k) (stop_of t k - start_of t k))
      (λ u m. let r = from-elim u (start_of t k) (stop_of t k - start_of t k) m in sym (body-in k u h r.0 (omega arith))))

  values-are : values_after a (going s) ≡ gather body_at (from 0 (length (l_rows a)))
  values-are =
      gather_ext (λ k. gather (column_at s k).body (machine.rows_at s k)) (λ k. gather body_at (from (start_of t k) (stop_of t k - start_of t k))) (from 0 n)
      (λ k m. column-values k (let r = from-elim k 0 n m in omega arith))
      ∙ (sym (gather-runs body_at (start_of t) n good.ordered.begins (λ k h. good.ordered.rising k h)) ∙ ap (λ (m : ℕ). gather body_at (from 0 m)) good.ordered.ends)

  body-length : (u : ℕ) → u < length (l_rows a) → length (body_at u) ≡ area_at (sizes a) (l_starts a) (l_rows a) u
  body-length u h =
      in_some good.ordered u (length (body_at u) ≡ area_at (sizes a) (l_starts a) (l_rows a) u) h
      (λ k l lo hi.
      let r = good.ranged k u l lo hi in
      ap length (body-in k u l lo hi) ∙ ((sized k l).of_body (at (l_rows a) u) (omega (arith, r.0)) r.1 ∙ sym (area-is (sizes a) (l_starts a) (l_rows a) good-sizes k (omega (arith, long)) u lo hi)))

  bodies-first : at (l_offsets a) 0 ≡ 0
  bodies-first = offsets-at (sizes a) (l_starts a) (l_rows a) 0 (omega arith) ∙ offset-first (sizes a) (l_starts a) (l_rows a)

  bodies-next : (v : ℕ) → v < length (l_rows a) → at (l_offsets a) (v + 1) ≡ at (l_offsets a) v + area_at (sizes a) (l_starts a) (l_rows a) v
  bodies-next v l = omega (arith, offsets-at (sizes a) (l_starts a) (l_rows a) v (omega arith), offsets-at (sizes a) (l_starts a) (l_rows a) (v + 1) (omega arith), offset-next (sizes a) (l_starts a) (l_rows a) v)

  body-held : (u : ℕ) → u < length (l_rows a) → slot (at (l_offsets a) u) (area_at (sizes a) (l_starts a) (l_rows a) u) (values_after a (going s)) ≡ body_at u
  body-held u h =
      ap (slot (at (l_offsets a) u) (area_at (sizes a) (l_starts a) (l_rows a) u)) values-are
      ∙ stands body_at (at (l_offsets a)) (area_at (sizes a) (l_starts a) (l_rows a)) (length (l_rows a)) bodies-first bodies-next body-length u h

  -- L's numbers by the tables
  pub areas-are : areas (sizes a) (l_starts a) (l_rows a) ≡ numbers a
  areas-are = plan_numbers (links a) n (links-symm a) (sizes a) long

  pub values-long : length (values_after a (going s)) ≡ numbers a
  values-long =
      ap length values-are ∙ (all-long body_at (at (l_offsets a)) (area_at (sizes a) (l_starts a) (l_rows a)) (length (l_rows a)) bodies-first bodies-next body-length
      ∙ (offsets-at (sizes a) (l_starts a) (l_rows a) (length (l_rows a)) (omega arith) ∙ areas-are))

  -- how long L's tables are
  pub rows_long : length (l_rows a) ≡ stored a
  rows_long = plan-stored (links a) n (links-symm a)

  pub offsets-long : length (l_offsets a) ≡ stored a + 1
  offsets-long = length-offsets (sizes a) (l_starts a) (l_rows a) ∙ ap (λ (m : ℕ). m + 1) rows_long

  -- ---- all of it

  pub holds : HoldsColumns t (values_after a (going s)) (units_after a (going s)) (pivots_after a (going s)) n (column_at s)
  holds =
      record {
        of_rows =
            record {
              rows = λ k h. run_rows a s runs k ∙ sym (plan_rows (links a) n (links-symm a) (sizes a) (l_offsets a) k h);
              bodies = λ k u h lo hi.
                  let in' = good.ordered.inside (k + 1) (omega arith) in
                  sym (ap (λ (m : ℕ). slot (at (l_offsets a) u) m (values_after a (going s))) (area-is (sizes a) (l_starts a) (l_rows a) good-sizes k (omega (arith, long)) u lo hi))
                  ∙ (body-held u (omega arith) ∙ body-in k u h lo hi);
            };
        of_factors = record { by_unit = unit-held; by_d = d-held };
      }
