-- The products by one column k: the tables' places `from` to `end` as lent parts. And what is lent for a column, still the same after two calls.
-- Assumes nothing.
use Rattle.std.specs.Prelude.{◌≡◌, ℕ, ◌+◌, ◌-◌, ◌*◌, ◌<◌, ◌≤◌, List, length}
use mathlib.Core.Path.{sym, ap, ◌∙◌}
use native.Mathlib.Omega.{arith}
use lib.Ieee.{Float}
use Rattle.tables.specs.Verdict.{at}
use Rattle.tiled_product.specs.Tiled.{times_diag}
use Rattle.machine.specs.Machine.{State, column_at, mat_product}
use Rattle.block_product.specs.Working.{slot}
use Rattle.block_product.proofs.SlotLaws.{at_slot, slot-length}
use Rattle.row_products.specs.Rows.{RowsFit, RowProducts}
use Rattle.lists.specs.declared.Tables.{Tables}
use Rattle.column_products.specs.declared.cores.Working.{Working}
use Rattle.column_products.specs.Columns.{Plan, plan_of, size_of, place_of, Holds, Kept, PlacesFit, ScaledByD, ColumnProducts, SameWorking}

module _ (p : Plan) (j k from end : ℕ) (le : from ≤ end) where
  -- the lent parts of the tables
  abbrev rows : List ℕ
  rows = slot from (end - from) p.l_rows

  abbrev offsets : List ℕ
  offsets = slot from (end - from) p.l_offsets

  module _ (values room c : ℕ) (fits : PlacesFit p j k from end values room c) where
    rows-length : length rows ≡ end - from
    rows-length = slot-length p.l_rows from (end - from) (omega (arith, fits.in_tables))

    pub rows_fit : RowsFit p.sizes p.places rows offsets j k values room c
    rows_fit =
        record {
          as_many = slot-length p.l_offsets from (end - from) (omega (arith, fits.in_tables)) ∙ sym rows-length;
          row = λ t h. rw (at_slot p.l_rows from (end - from) t (omega (arith, rows-length))) (fits.row (from + t) (omega arith) (omega (arith, rows-length)));
          body = λ t h.
              rw (at_slot p.l_rows from (end - from) t (omega (arith, rows-length)), at_slot p.l_offsets from (end - from) t (omega (arith, rows-length)))
              (fits.body (from + t) (omega arith) (omega (arith, rows-length)));
          scaled_row = λ t h. rw (at_slot p.l_rows from (end - from) t (omega (arith, rows-length))) (fits.scaled_row (from + t) (omega arith) (omega (arith, rows-length)));
          block = λ t h. rw (at_slot p.l_rows from (end - from) t (omega (arith, rows-length))) (fits.block (from + t) (omega arith) (omega (arith, rows-length)));
        }

    -- the rows' products, with Q(j) d made from row j, are the column's
    pub column_products : (vs diag d cache qj cl c' : List Float) (count count' : ℕ) → from < end → at p.l_rows from ≡ j
        → ScaledByD (size_of p j) (size_of p k) (at p.l_offsets from) vs cache (slot (at p.unit_starts k) (size_of p k * size_of p k) diag) (slot (at p.d_starts k) (size_of p k) d) qj
        → RowProducts (size_of p) (place_of p) j k rows offsets vs cache (slot (at p.unit_starts k) (size_of p k * size_of p k) diag) qj cl count c' count'
        → ColumnProducts p j k from end vs diag d cache cl count c' count'
    column_products vs diag d cache qj cl c' count count' lt at_j q r =
        record {
          counts = r.counts ∙ ap (λ (n : ℕ). count + n) rows-length;
          steps = λ on all apart s holds kept.
              r.steps on all apart s
              (record {
                kept = λ t h.
                    rw (at_slot p.l_rows from (end - from) t (omega (arith, rows-length)), at_slot p.l_offsets from (end - from) t (omega (arith, rows-length)))
                    (kept (from + t) (omega arith) (omega (arith, rows-length)));
                bodies = λ t h.
                    rw (at_slot p.l_rows from (end - from) t (omega (arith, rows-length)), at_slot p.l_offsets from (end - from) t (omega (arith, rows-length)))
                    (holds.bodies (from + t) (omega arith) (omega (arith, rows-length)));
                by_unit = holds.by_unit;
                by_q = q (first-kept s holds kept) ∙ rw (holds.by_unit, holds.by_d) (ap (λ (b : List Float). times_diag (size_of p j) (size_of p k) (column_at s k).d (mat_product (size_of p j) (size_of p k) (size_of p k) b (column_at s k).unit)) (first s holds));
              });
        }
      where
        -- the body of row j
        first : (s : State) → Holds p vs diag d k from end (column_at s k) → slot (at p.l_offsets from) (size_of p j * size_of p k) vs ≡ (column_at s k).body j
        first s holds = rw at_j at (holds.bodies from (omega arith) lt)

        -- Q(j), where the cache reaches so far
        first-kept :
            (s : State) → Holds p vs diag d k from end (column_at s k) → Kept p cache k from end (column_at s k) →
            at p.l_offsets from + size_of p j * size_of p k ≤ length cache →
            slot (at p.l_offsets from) (size_of p j * size_of p k) cache ≡ mat_product (size_of p j) (size_of p k) (size_of p k) (slot (at p.l_offsets from) (size_of p j * size_of p k) vs) (slot (at p.unit_starts k) (size_of p k * size_of p k) diag)
        first-kept s holds kept = rw (first s holds, holds.by_unit) (rw at_j at (kept from (omega arith) lt))

-- ---- what is lent, after a call

module _ {w x : Working} (same : SameWorking w x) where
  pub same-after : {y : Working} → SameWorking x y → SameWorking w y
  same-after next =
      record {
        qj = (next.qj.0 ∙ same.qj.0, next.qj.1 ∙ same.qj.1);
        qi = (next.qi.0 ∙ same.qi.0, next.qi.1 ∙ same.qi.1);
        c = (next.c.0 ∙ same.c.0, next.c.1 ∙ same.c.1);
      }

  pub places-after : (t : Tables) (places : List ℕ) (j k f f' e v : ℕ) → f' ≡ f → PlacesFit (plan_of t places) j k f e v (length w.qi.now) (length w.c.now)
      → PlacesFit (plan_of t places) j k f' e v (length x.qi.now) (length x.c.now)
  places-after t places j k f f' e v is fits = rw (is, same.qi.1, same.c.1) fits
