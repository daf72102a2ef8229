-- THE END OF A COLUMN: where the flat lists hold the machine's finished columns and show its working column, they hold one column more
-- after the two steps, and a refusal is the machine's.
--     block-fits, rows_fit    what the steps need, from how the blocks lie
--     stopped, stored    the two ways out
-- Assumes nothing.
use Rattle.std.specs.Prelude.{◌≡◌, ℕ, ◌+◌, ◌-◌, ◌*◌, ◌<◌, ◌≤◌, T, List, [], ◌∷◌, ◌++◌, length, get_or}
use mathlib.Core.Path.{refl, sym, ap, subst, ◌∙◌}
use native.Mathlib.Decide.{dec_lt}
use native.Mathlib.Omega.{arith}
use lib.Ieee.{Float}
use lib.ListN.{length-append, get_or-append}
use lib.Seq.{get_or_at}
use Rattle.graph.specs.Sets.{elem}
use Rattle.graph.proofs.SetLaws.{elem-head, elem-tail}
use Rattle.buckets.proofs.Lists.{elem_at}
use Rattle.dense_pivots.specs.declared.LdltResult.{LdltResult}
use Rattle.dense_solve_right.specs.SolveRight.{ldlt_right_matsolve}
use Rattle.block_diag_ldlt.specs.Block.{block_ldlt}
use Rattle.std.specs.Prelude.{Result, Ok, Err}
use Rattle.block_diag_ldlt.specs.declared.cores.BlockError.{BlockError}
use Rattle.block_diag_ldlt.specs.declared.cores.BlockError.TheVariants.{NotFinite, Poor}
use Rattle.tables.specs.Verdict.{at}
use Rattle.machine.specs.System.{System}
use Rattle.machine.specs.Machine.{State, Column, no_column, body_or, solved, settled_by, finish}
use Rattle.block_product.specs.Working.{slot}
use Rattle.block_product.proofs.SlotLaws.{at_slot, slot-length}
use Rattle.column_products.specs.Columns.{Holds}
use Rattle.layout.specs.Layout.{Tables, side, start_of, stop_of, rows_at, on_at, plan_at, RowsLaid, Placed, DiagonalLaid}
use Rattle.finish_column.specs.Steps.{BlockFit, Decomposes, StoreFit, Stores}
use Rattle.finish_column.specs.Finish.{HoldsAll, Ended, Before, Finishes}

module _ (t : Tables) (unit_starts d_starts places : List ℕ) (j : ℕ) where
  abbrev from : ℕ
  from = start_of t j

  abbrev end : ℕ
  end = stop_of t j

  -- ---- what the steps need

  module _ (values c diag d : ℕ) (rows : RowsLaid t (length t.sizes) values c) (diagonal : DiagonalLaid t.sizes unit_starts d_starts (length t.sizes) diag d)
      (placed : Placed t places j × (j < length t.sizes) × (length places ≡ length t.sizes)) where
    pub block-fits : BlockFit t.sizes places unit_starts d_starts j c diag d
    block-fits =
        let n = length t.sizes in
        let h = placed.1 in
        record {
          known = omega (arith, placed.1, placed.2, diagonal.count);
          block = rw placed.0.own (omega (arith, rows.packed j h));
          unit = omega (arith, diagonal.unit j n h (omega arith), diagonal.units);
          of_d = omega (arith, diagonal.pivots j n h (omega arith), diagonal.all_pivots);
        }

    pub rows_fit : StoreFit t places j c values
    rows_fit =
        record {
          in_tables = omega (arith, rows.column j h, rows.count);
          row = λ u le lt. omega (arith, rows.row j u h le lt, placed.2);
          block = λ u le lt. rw (placed.0.row u le lt) (packs u le lt);
          body = λ u le lt. omega (arith, rows.body j u (length t.l_rows) h le lt (omega (arith, rows.column j h)) (omega arith), rows.bodies);
          after = λ u v le l lt. rows.body j u v h le (omega arith) l (omega (arith, rows.column j h));
        }
      where
        h : j < length t.sizes
        h = placed.1

        -- a block packed ends before the column's last one does
        packs : (u : ℕ) → from ≤ u → u < end
            → side t j * side t j + (at t.l_offsets u - at t.l_offsets from) + side t (at t.l_rows u) * side t j ≤ c
        packs u le lt =
            omega (arith, rows.packed j h, rows.body j u end h le lt lt (rows.column j h).1, begins u le lt (dec_lt from u))
          where
            begins : (u : ℕ) → from ≤ u → u < end → Dec (from < u) → at t.l_offsets from ≤ at t.l_offsets u
            begins u le lt (yes l) = omega (arith, rows.body j from u h (omega arith) (omega arith) l (omega (arith, rows.column j h)))
            begins u le lt (no l) = let e : from ≡ u = omega arith in rw e (omega arith)

  -- ---- what they leave

  module _ (tol : Float) (c values diag d diag' d' : List Float) where
    -- the unit factor and d of the column, as they stand in their places
    abbrev unit : List Float
    unit = slot (at unit_starts j) (side t j * side t j) diag'

    abbrev pivots : List Float
    pivots = slot (at d_starts j) (side t j) d'

    abbrev Answers : Result LdltResult BlockError → Type 0
    Answers r = Decomposes t.sizes places unit_starts d_starts j tol c diag d r diag' d'

    -- the block that the flat list shows is the machine's, and so is its answer
    same-finish : (r : Result LdltResult BlockError) → Answers r → (a : System) (count : ℕ) (s : State) → Before t unit_starts d_starts a tol j count places c values diag d s
        → finish a j s ≡ settled_by a j s (r, unit, pivots)
    unfolding finish
    same-finish r answers a count s b =
        ap (λ (l : List ℕ). settled_by a j s (block_ldlt (at l j) a.tol (body_or (at l j * at l j) (s.work j)))) (sym b.by_sizes)
        ∙ ap (λ (x : Float). settled_by a j s (block_ldlt (side t j) x (body_or (side t j * side t j) (s.work j)))) b.by_tol
        ∙ sym (ap (λ (l : List Float). settled_by a j s (block_ldlt (side t j) tol l)) (b.shown.blocks j (elem-head j (rows_at t j))))
        ∙ sym (ap (settled_by a j s) answers.factors)

    pub stopped : (e : BlockError) → Answers (Err e) → Finishes t unit_starts d_starts tol j places c values diag d (Err e, values, diag', d')
    unfolding settled_by
    stopped (NotFinite place pivot) answers a count s b = same-finish (Err (NotFinite place pivot)) answers a count s b
    stopped (Poor condition) answers a count s b = same-finish (Err (Poor condition)) answers a count s b

    module _ (rows : RowsLaid t (length t.sizes) (length values) (length c)) (diagonal : DiagonalLaid t.sizes unit_starts d_starts (length t.sizes) (length diag) (length d))
        (known : j < length t.sizes) (k : LdltResult) (answers : Answers (Ok k))
        (values' : List Float) (stores : Stores t places j end unit pivots c values values')
        (a : System) (count : ℕ) (s : State) (b : Before t unit_starts d_starts a tol j count places c values diag d s) where
      -- a row of the table is one of the column
      row_on : (u : ℕ) → from ≤ u → u < end → T (elem (at t.l_rows u) (on_at t j))
      row_on u le lt =
          let e : from + (u - from) ≡ u = omega arith in
          let f = at_slot t.l_rows from (end - from) (u - from) (omega arith) in
          let many = slot-length t.l_rows from (end - from) (omega (arith, rows.column j known)) in
          elem-tail (at t.l_rows u) j (rows_at t j)
          (subst (λ (i : ℕ). T (elem i (rows_at t j))) (f ∙ ap (at t.l_rows) e) (elem_at (rows_at t j) (u - from) (omega (arith, many))))

      -- a column before it is held as it was
      old-held : (m : ℕ) → m < j → Holds (plan_at t unit_starts d_starts []) values' diag' d' m (start_of t m) (stop_of t m) (get_or s.finished m no_column)
      old-held m h =
          let was = b.held.column m (omega (arith, b.so_far)) in
          let ends = rows.after m j h (omega arith) in
          record {
            bodies = λ u le lt.
                stores.before (at t.l_offsets u) (side t (at t.l_rows u) * side t m)
                (λ v le' lt'. rows.body m u v (omega arith) le lt (omega arith) (omega (arith, rows.column j known)))
                ∙ was.bodies u le lt;
            by_unit = answers.units_before (at unit_starts m) (side t m * side t m) (diagonal.unit m j h (omega arith)) ∙ was.by_unit;
            by_d = answers.d_before (at d_starts m) (side t m) (diagonal.pivots m j h (omega arith)) ∙ was.by_d;
          }

      -- the new column is the machine's
      abbrev new : Column
      new = solved a j s unit pivots

      new-held : Holds (plan_at t unit_starts d_starts []) values' diag' d' j from end new
      new-held =
          record {
            bodies = λ u le lt.
                stores.own u le lt
                ∙ ap (ldlt_right_matsolve (side t (at t.l_rows u)) (side t j) unit pivots) (b.shown.blocks (at t.l_rows u) (row_on u le lt))
                ∙ ap (λ (l : List ℕ). ldlt_right_matsolve (at l (at t.l_rows u)) (at l j) unit pivots (body_or (at l (at t.l_rows u) * at l j) (s.work (at t.l_rows u)))) b.by_sizes;
            by_unit = refl;
            by_d = refl;
          }

      all_held : HoldsAll t unit_starts d_starts values' diag' d' (s.finished ++ (new ∷ []))
      all_held = record { column = λ m h. at-column m (dec_lt m j) h; rows = λ m h. at_rows m (dec_lt m j) h }
        where
          all : List Column
          all = s.finished ++ (new ∷ [])

          before : (m : ℕ) → m < j → get_or all m no_column ≡ get_or s.finished m no_column
          before m l = get_or-append s.finished (new ∷ []) no_column m (omega (arith, b.so_far))

          last : get_or all j no_column ≡ new
          last = get_or_at s.finished new [] no_column j b.so_far

          is_last : (m : ℕ) → (m < j → ⊥) → m < length all → j ≡ m
          is_last m l h = omega (arith, length-append s.finished (new ∷ []), b.so_far)

          at-column : (m : ℕ) → Dec (m < j) → m < length all → Holds (plan_at t unit_starts d_starts []) values' diag' d' m (start_of t m) (stop_of t m) (get_or all m no_column)
          at-column m (yes l) h = rw (before m l) (old-held m l)
          at-column m (no l) h =
              subst (λ (m : ℕ). Holds (plan_at t unit_starts d_starts []) values' diag' d' m (start_of t m) (stop_of t m) (get_or all m no_column)) (is_last m l h) (rw last new-held)

          at_rows : (m : ℕ) → Dec (m < j) → m < length all → (get_or all m no_column).rows ≡ rows_at t m
          at_rows m (yes l) h = rw (before m l) (b.held.rows m (omega (arith, b.so_far)))
          at_rows m (no l) h = subst (λ (m : ℕ). (get_or all m no_column).rows ≡ rows_at t m) (is_last m l h) (rw last b.rows)

      pub stored : Ended t unit_starts d_starts a j s (Ok k, values', diag', d')
      unfolding settled_by
      stored = (new, same-finish (Ok k) answers a count s b, all_held)
