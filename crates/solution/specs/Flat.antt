-- The columns of a factor in its flat tables, and a vector by blocks in a flat list: what the code of the solve reads and writes.
-- Assumes nothing.
use Rattle.std.specs.Prelude.{ℕ, ◌+◌, ◌*◌, ◌≤◌, ◌<◌, List, ◌≡◌, Float, length}
use Rattle.graph.specs.Links.{rows_in}
use Rattle.tables.specs.Verdict.{at}
use Rattle.scalars.specs.Scalars.{scalar_starts}
use Rattle.scalars.specs.Bodies.{place_of}
use Rattle.machine.specs.Machine.{Column}
use Rattle.block_product.specs.Working.{slot}
use Rattle.layout.specs.Layout.{Tables, rows_at, start_of, stop_of, side, unit_starts_of}
use Rattle.solution.specs.Solution.{Vector}

-- ---- the columns

-- column k: its rows as the row table lists them; the body of row i at its offset in L's values; the unit factor and d behind those
-- of the blocks before it
abbrev pub column_in : Tables → (l_values diag d : List Float) → ℕ → Column
column_in t l_values diag d k =
    record {
      rows = rows_in t.l_starts t.l_rows k;
      body = λ i. slot (at t.l_offsets (place_of t.l_starts t.l_rows i k)) (side t i * side t k) l_values;
      unit = slot (at (unit_starts_of t.sizes) k) (side t k * side t k) diag;
      d = slot (at (scalar_starts t.sizes) k) (side t k) d;
    }

-- L's tables and values hold the rows of these columns. Of a body nothing is said but where its row is listed.
pub record HoldsRows (t : Tables) (l_values : List Float) (n : ℕ) (col : ℕ → Column) : Type 0 where
  pub rows : (k : ℕ) → k < n → (col k).rows ≡ rows_at t k
  pub bodies : (k u : ℕ) → k < n → start_of t k ≤ u → u < stop_of t k → slot (at t.l_offsets u) (side t (at t.l_rows u) * side t k) l_values ≡ (col k).body (at t.l_rows u)

-- the flat lists of the diagonal hold their unit factors and d
pub record HoldsFactors (sizes : List ℕ) (diag d : List Float) (n : ℕ) (col : ℕ → Column) : Type 0 where
  pub by_unit : (k : ℕ) → k < n → slot (at (unit_starts_of sizes) k) (at sizes k * at sizes k) diag ≡ (col k).unit
  pub by_d : (k : ℕ) → k < n → slot (at (scalar_starts sizes) k) (at sizes k) d ≡ (col k).d

-- both
pub record HoldsColumns (t : Tables) (l_values diag d : List Float) (n : ℕ) (col : ℕ → Column) : Type 0 where
  pub of_rows : HoldsRows t l_values n col
  pub of_factors : HoldsFactors t.sizes diag d n col

-- ---- a vector by blocks in a flat list: block k begins at starts[k]

-- what is needed: each block lies in a list of m numbers, and ends before the later ones begin
pub record BlocksLaid (sizes starts : List ℕ) (m : ℕ) : Type 0 where
  pub count : length starts ≡ length sizes + 1
  pub small : (k : ℕ) → k < length sizes → at sizes k ≤ 16
  pub apart : (k j : ℕ) → k < j → j ≤ length sizes → at starts k + at sizes k ≤ at starts j
  pub inside : at starts (length sizes) ≤ m

-- the flat list y shows the vector x
abbrev pub ShowsVector : (sizes starts : List ℕ) → List Float → Vector → Type 0
ShowsVector sizes starts y x = (k : ℕ) → k < length sizes → slot (at starts k) (at sizes k) y ≡ x k

-- what a row needs: the place u of L's tables is there; the row's block lies in a vector of m numbers, behind the w numbers from s on; and its
-- body, of width w, lies in L's values
pub record RowFits (sizes starts l_rows l_offsets : List ℕ) (s w u values m : ℕ) : Type 0 where
  pub known : (u < length l_rows) × (u < length l_offsets)
  pub row : (at l_rows u < length sizes) × (at l_rows u < length starts)
  pub behind : s + w ≤ at starts (at l_rows u)
  pub block : at starts (at l_rows u) + at sizes (at l_rows u) ≤ m
  pub body : at l_offsets u + at sizes (at l_rows u) * w ≤ values
