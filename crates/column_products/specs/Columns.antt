-- The finished columns of L in flat lists, and the products of column j by one of them. Assumes nothing.
use Rattle.std.specs.Prelude.{◌≡◌, ℕ, ◌+◌, ◌-◌, ◌*◌, ◌<◌, ◌≤◌, T, List, map, length}
use Rattle.std.specs.Prelude.{Float}
use Rattle.graph.specs.Sets.{elem}
use Rattle.graph.specs.Count.{triple}
use Rattle.tables.specs.Verdict.{at}
use Rattle.tiled_product.specs.Tiled.{times_diag}
use Rattle.machine.specs.Machine.{State, Column, column_at, mat_product, scaled, products}
use Rattle.block_product.specs.Working.{slot, Apart, Shows}
use Rattle.lists.specs.declared.Tables.{Tables}
use Rattle.column_products.specs.declared.cores.Working.{Working}

-- L(j, k), of h rows and w columns, stands in `values` from o on. If the cache, where it is long enough, has Q(j) at the same place, then q is Q(j) d.
abbrev pub ScaledByD : (h w o : ℕ) (values cache unit d q : List Float) → Type 0
ScaledByD h w o values cache unit d q =
    (o + h * w ≤ length cache → slot o (h * w) cache ≡ mat_product h w w (slot o (h * w) values) unit)
    → q ≡ times_diag h w d (mat_product h w w (slot o (h * w) values) unit)

-- The tables, by new number: the dimensions; where each block of the working column begins; the rows of L, column after column;
-- where the body of each begins in L's values; where a diagonal block's unit factor begins, and its d.
pub record Plan : Type 0 where
  pub sizes : List ℕ
  pub places : List ℕ
  pub l_rows : List ℕ
  pub l_offsets : List ℕ
  pub unit_starts : List ℕ
  pub d_starts : List ℕ

abbrev pub plan : (sizes places l_rows l_offsets unit_starts d_starts : List ℕ) → Plan
plan sizes places l_rows l_offsets unit_starts d_starts =
    record { sizes = sizes; places = places; l_rows = l_rows; l_offsets = l_offsets; unit_starts = unit_starts; d_starts = d_starts }

-- the same of the struct, with the places of a working column
abbrev pub plan_of : Tables → (places : List ℕ) → Plan
plan_of t places = plan t.sizes.now places t.l_rows.now t.l_offsets.now t.unit_starts.now t.d_starts.now

-- what is lent for a column is still the same, and as long
pub record SameWorking (w x : Working) : Type 0 where
  pub qj : (x.qj.ghost_name ≡ w.qj.ghost_name) × (length x.qj.now ≡ length w.qj.now)
  pub qi : (x.qi.ghost_name ≡ w.qi.ghost_name) × (length x.qi.now ≡ length w.qi.now)
  pub c : (x.c.ghost_name ≡ w.c.ghost_name) × (length x.c.now ≡ length w.c.now)

module _ (p : Plan) where
  -- a block's dimension, and where it begins in the working column
  abbrev pub size_of : ℕ → ℕ
  size_of = at p.sizes

  abbrev pub place_of : ℕ → ℕ
  place_of = at p.places

  -- Places `from` to `end` of the tables are rows of column k, and the flat lists hold it: each of these bodies, the unit factor and d.
  pub record Holds (values diag d : List Float) (k from end : ℕ) (col : Column) : Type 0 where
    pub bodies : (t : ℕ) → from ≤ t → t < end → slot (at p.l_offsets t) (size_of (at p.l_rows t) * size_of k) values ≡ col.body (at p.l_rows t)
    pub by_unit : slot (at p.unit_starts k) (size_of k * size_of k) diag ≡ col.unit
    pub by_d : slot (at p.d_starts k) (size_of k) d ≡ col.d

  -- The cache has Q(i) of these rows, as far as it is long enough: at the place that the body has in L's values.
  abbrev pub Kept : (cache : List Float) (k from end : ℕ) (col : Column) → Type 0
  Kept cache k from end col =
      (t : ℕ) → from ≤ t → t < end → at p.l_offsets t + size_of (at p.l_rows t) * size_of k ≤ length cache
      → slot (at p.l_offsets t) (size_of (at p.l_rows t) * size_of k) cache ≡ scaled size_of col (at p.l_rows t) k

  -- ---- what is needed: every block that is read or written lies in its list

  -- of the rows: L(i, k), Q(i) and block (i, j)
  pub record PlacesFit (j k from end values room c : ℕ) : Type 0 where
    pub in_tables : (end ≤ length p.l_rows) × (end ≤ length p.l_offsets)
    pub row : (t : ℕ) → from ≤ t → t < end → (at p.l_rows t < length p.sizes) × (at p.l_rows t < length p.places)
    pub body : (t : ℕ) → from ≤ t → t < end → at p.l_offsets t + size_of (at p.l_rows t) * size_of k ≤ values
    pub scaled_row : (t : ℕ) → from ≤ t → t < end → size_of (at p.l_rows t) * size_of k ≤ room
    pub block : (t : ℕ) → from ≤ t → t < end → place_of (at p.l_rows t) + size_of (at p.l_rows t) * size_of j ≤ c

  -- of the column: its unit factor, its d, and Q(j)
  pub record FactorsFit (j k diag d room : ℕ) : Type 0 where
    pub known : (j < length p.sizes) × (k < length p.sizes) × (k < length p.unit_starts) × (k < length p.d_starts) × (0 < size_of k)
    pub unit : at p.unit_starts k + size_of k * size_of k ≤ diag
    pub of_d : at p.d_starts k + size_of k ≤ d
    pub scaled : size_of j * size_of k ≤ room

  -- ---- what is promised: row j stands at `from`; the block products (i, j, k) for i = j and the rows after it

  pub record ColumnProducts (j k from end : ℕ) (values diag d cache c : List Float) (count : ℕ) (c' : List Float) (count' : ℕ) : Type 0 where
    pub counts : count' ≡ count + (end - from)
    pub steps : (on : List ℕ) → ((i : ℕ) → T (elem i (slot from (end - from) p.l_rows)) → T (elem i on)) → Apart size_of place_of on j
        → (s : State) → Holds values diag d k from end (column_at s k) → Kept cache k from end (column_at s k) → Shows size_of place_of on j c count s
        → Shows size_of place_of on j c' count' (products size_of (map (triple j k) (slot from (end - from) p.l_rows)) s)
