-- The cache after one column more.
--     fits-laid    what keeping a column's rows asks is given by L's tables
--     kept_more    the cache has Q of the finished columns and of the new one
-- Assumes nothing.
use Rattle.std.specs.Prelude.{◌≡◌, ℕ, ◌+◌, ◌*◌, ◌<◌, ◌≤◌, List, [], ◌∷◌, ◌++◌, length, get_or}
use mathlib.Core.Path.{sym, ap₂, subst, ◌∙◌}
use native.Mathlib.Decide.{dec_lt}
use native.Mathlib.Omega.{arith}
use lib.Ieee.{Float}
use lib.ListN.{length-append, get_or-append}
use Rattle.tables.specs.Verdict.{at}
use Rattle.machine.specs.Machine.{Column, no_column, mat_product}
use Rattle.block_product.specs.Working.{slot}
use Rattle.column_products.specs.Columns.{Kept}
use Rattle.layout.specs.Layout.{Tables, side, start_of, stop_of, plan_at, RowsLaid}
use Rattle.finish_column.specs.Finish.{HoldsAll}
use Rattle.keep_column.specs.Keep.{KeepFit, Keeps, KeptAll}

module _ (t : Tables) {n values c : ℕ} (laid : RowsLaid t n values c) (j : ℕ) (inside : j < n) where
  pub fits-laid : KeepFit t.sizes t.l_rows t.l_offsets j (start_of t j) (stop_of t j) values
  fits-laid =
      record {
        in_tables = ((laid.column j inside).0, (laid.column j inside).1, omega (arith, (laid.column j inside).1, laid.count.2));
        row = λ u le lt. omega (arith, (laid.row j u inside le lt).1, laid.count.0);
        body = λ u le lt. omega (arith, laid.body j u (length t.l_rows) inside le lt (omega (arith, (laid.column j inside).1)) (omega arith), laid.bodies);
        after = λ u v le less lt. laid.body j u v inside (omega arith) (omega arith) less (omega (arith, (laid.column j inside).1));
      }

  module _ (unit_starts d_starts : List ℕ) (vs diag d cache cache' : List Float) (cols : List Column) (col : Column) (so_far : length cols ≡ j)
      (kept : KeptAll t unit_starts d_starts cache cols) (held : HoldsAll t unit_starts d_starts vs diag d (cols ++ (col ∷ [])))
      (keeps : Keeps t.sizes t.l_rows t.l_offsets j (start_of t j) (stop_of t j) vs (slot (at unit_starts j) (side t j * side t j) diag) cache cache') where
    -- an earlier column ends before the new one begins
    earlier : (k : ℕ) → k < j → Kept (plan_at t unit_starts d_starts []) cache' k (start_of t k) (stop_of t k) (get_or cols k no_column)
    earlier k l u le lt fits =
        keeps.before (at t.l_offsets u) (side t (at t.l_rows u) * side t k)
        (λ v le' lt'. laid.body k u v (omega arith) le lt (omega (arith, laid.after k j l (omega arith))) (omega (arith, (laid.column j inside).1)))
        ∙ kept k (omega arith) u le lt (subst (λ (m : ℕ). at t.l_offsets u + side t (at t.l_rows u) * side t k ≤ m) keeps.long fits)

    -- the new column
    new : Kept (plan_at t unit_starts d_starts []) cache' j (start_of t j) (stop_of t j) (get_or (cols ++ (col ∷ [])) j no_column)
    new u le lt fits =
        let h = held.column j (rw length-append (omega arith)) in
        keeps.own u le lt (subst (λ (m : ℕ). at t.l_offsets u + side t (at t.l_rows u) * side t j ≤ m) keeps.long fits)
        ∙ ap₂ (mat_product (side t (at t.l_rows u)) (side t j) (side t j)) (h.bodies u le lt) h.by_unit

    pub kept_more : KeptAll t unit_starts d_starts cache' (cols ++ (col ∷ []))
    kept_more k l = go (dec_lt k j)
      where
        go : Dec (k < j) → Kept (plan_at t unit_starts d_starts []) cache' k (start_of t k) (stop_of t k) (get_or (cols ++ (col ∷ [])) k no_column)
        go (yes p) =
            subst (Kept (plan_at t unit_starts d_starts []) cache' k (start_of t k) (stop_of t k)) (sym (get_or-append cols (col ∷ []) no_column k (omega arith))) (earlier k p)
        go (no p) =
            let e : j ≡ k = omega (arith, length-append cols (col ∷ [])) in
            subst (λ (k : ℕ). Kept (plan_at t unit_starts d_starts []) cache' k (start_of t k) (stop_of t k) (get_or (cols ++ (col ∷ [])) k no_column)) e new
