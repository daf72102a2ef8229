-- The cache of Q(i) = L(i, k) times the unit factor of k: Q(i) stands where L(i, k) stands in L's values, as far as the cache is long enough.
-- Assumes nothing.
use Rattle.std.specs.Prelude.{◌≡◌, ℕ, ◌+◌, ◌*◌, ◌<◌, ◌≤◌, List, [], length, slice_index_or}
use Rattle.std.specs.Prelude.{Float}
use Rattle.tables.specs.Verdict.{at}
use Rattle.machine.specs.Machine.{Column, no_column, mat_product}
use Rattle.block_product.specs.Working.{slot}
use Rattle.column_products.specs.Columns.{Kept}
use Rattle.layout.specs.Layout.{Tables, start_of, stop_of, plan_at}

-- ---- one row: h rows and w columns from o on

pub record KeptRow (h w o : ℕ) (values unit cache cache' : List Float) : Type 0 where
  pub long : length cache' ≡ length cache
  pub own : o + h * w ≤ length cache → slot o (h * w) cache' ≡ mat_product h w w (slot o (h * w) values) unit
  -- what ends before it is not changed
  pub before : (p n : ℕ) → p + n ≤ o → slot p n cache' ≡ slot p n cache

-- ---- the rows at places `from` to `end` of the tables

module _ (sizes rows offsets : List ℕ) (k from end : ℕ) where
  -- what is needed: each body lies in L's values, and ends before the later ones begin
  pub record KeepFit (values : ℕ) : Type 0 where
    pub in_tables : (from ≤ end) × (end ≤ length rows) × (end ≤ length offsets)
    pub row : (u : ℕ) → from ≤ u → u < end → at rows u < length sizes
    pub body : (u : ℕ) → from ≤ u → u < end → at offsets u + at sizes (at rows u) * at sizes k ≤ values
    pub after : (u v : ℕ) → from ≤ u → u < v → v < end → at offsets u + at sizes (at rows u) * at sizes k ≤ at offsets v

  -- what is promised: as long as it was; each Q(i) that fits stands at its place; what ends before all of them is not changed
  pub record Keeps (values unit cache cache' : List Float) : Type 0 where
    pub long : length cache' ≡ length cache
    pub own : (u : ℕ) → from ≤ u → u < end → at offsets u + at sizes (at rows u) * at sizes k ≤ length cache
        → slot (at offsets u) (at sizes (at rows u) * at sizes k) cache'
        ≡ mat_product (at sizes (at rows u)) (at sizes k) (at sizes k) (slot (at offsets u) (at sizes (at rows u) * at sizes k) values) unit
    pub before : (p n : ℕ) → ((u : ℕ) → from ≤ u → u < end → p + n ≤ at offsets u) → slot p n cache' ≡ slot p n cache

-- ---- all finished columns

-- the cache has Q(i) of every row of them
abbrev pub KeptAll : (t : Tables) (unit_starts d_starts : List ℕ) (cache : List Float) (cols : List Column) → Type 0
KeptAll t unit_starts d_starts cache cols = (k : ℕ) → k < length cols → Kept (plan_at t unit_starts d_starts []) cache k (start_of t k) (stop_of t k) (slice_index_or cols k no_column)
