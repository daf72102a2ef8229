-- What columns the flat tables of a factor hold.
--     columns-held    those that are read off them
--     machine-held    the machine's finished columns
-- Assumes nothing.
use Prim.Native.Nat.{ℕ, ◌*◌, ◌≤◌, ◌<◌}
use mathlib.Core.Bool.{not}
use mathlib.Core.List.{List}
use mathlib.Core.Path.{◌≡◌, refl, sym, ap}
use native.Mathlib.Omega.{arith}
use borrow.Author.Tests.{eq-eqb, ne_eqb}
use lib.Dec.{eqb}
use lib.Ieee.{Float}
use lib.ListN.{length}
use Rattle.tables.specs.Verdict.{at}
use Rattle.tables.proofs.SearchLaws.{first-at}
use Rattle.scalars.specs.Scalars.{scalar_starts}
use Rattle.scalars.specs.Bodies.{place_of}
use Rattle.machine.specs.Machine.{State, column_at}
use Rattle.block_product.specs.Working.{slot}
use Rattle.layout.specs.Layout.{Tables, side, start_of, stop_of, RowsLaid, unit_starts_of}
use Rattle.layout.proofs.RowLaws.{rows-slot, rows-rise}
use Rattle.finish_column.specs.Finish.{HoldsAll}
use Rattle.solution.specs.Flat.{column_in, HoldsColumns}

module _ (t : Tables) {n v c : ℕ} (laid : RowsLaid t n v c) where
  -- a row stands at one place of its column
  place_is : (k u : ℕ) → k < n → start_of t k ≤ u → u < stop_of t k → place_of t.l_starts t.l_rows (at t.l_rows u) k ≡ u
  unfolding place_of
  place_is k u h lo hi =
      let row = at t.l_rows u in
      first-at (λ p. not (eqb (at t.l_rows p) row)) (start_of t k) u (stop_of t k) lo hi
      (λ p a b. let r = rows-rise t laid k h p u a b hi in ap not (ne_eqb (at t.l_rows p) row (λ s. absurd (omega arith)))) (ap not (eq-eqb row row refl))

  pub columns-held : (l_values diag d : List Float) → HoldsColumns t l_values diag d n (column_in t l_values diag d)
  columns-held l_values diag d =
      record {
        of_rows = record {
          rows = λ k h. rows-slot t.l_starts t.l_rows k;
          bodies = λ k u h lo hi. ap (λ (p : ℕ). slot (at t.l_offsets p) (side t (at t.l_rows u) * side t k) l_values) (sym (place_is k u h lo hi));
        };
        of_factors = record { by_unit = λ k h. refl; by_d = λ k h. refl };
      }

pub machine-held : (t : Tables) (n : ℕ) (l_values diag d : List Float) (s : State) → length s.finished ≡ n
    → HoldsAll t (unit_starts_of t.sizes) (scalar_starts t.sizes) l_values diag d s.finished → HoldsColumns t l_values diag d n (column_at s)
machine-held t n l_values diag d s l held =
    record {
      of_rows = record { rows = λ k h. held.rows k (omega arith); bodies = λ k u h lo hi. (held.column k (omega arith)).bodies u lo hi };
      of_factors = record { by_unit = λ k h. (held.column k (omega arith)).by_unit; by_d = λ k h. (held.column k (omega arith)).by_d };
    }
