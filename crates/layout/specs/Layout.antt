-- Where the blocks of a factor lie. L's tables and the dimensions, by new number, decide it: L's bodies back to back, column after column;
-- the unit factors of the diagonal blocks back to back; d. The column being worked is packed: its diagonal block first, then its rows
-- as they lie in L's values. Assumes nothing.
use Rattle.std.specs.Prelude.{◌≡◌, ℕ, ◌+◌, ◌-◌, ◌*◌, ◌<◌, ◌≤◌, max, List, [], ◌∷◌, map, length}
use Rattle.graph.specs.Sets.{Inc}
use Rattle.tables.specs.Verdict.{at}
use Rattle.scalars.specs.Scalars.{scalar_starts, scalar_count}
use Rattle.scalars.specs.Bodies.{offsets}
use Rattle.block_product.specs.Working.{slot}
use Rattle.column_products.specs.Columns.{Plan, plan}
use Rattle.lists.specs.declared.Tables as declared

-- ---- the tables

-- the dimensions; where each column of L begins in the row table, and where the last one ends; L's rows; where each body begins in
-- L's values, and where the last one ends
pub record Tables : Type 0 where
  pub sizes : List ℕ
  pub l_starts : List ℕ
  pub l_rows : List ℕ
  pub l_offsets : List ℕ

abbrev pub tables : (sizes l_starts l_rows l_offsets : List ℕ) → Tables
tables sizes l_starts l_rows l_offsets = record { sizes = sizes; l_starts = l_starts; l_rows = l_rows; l_offsets = l_offsets }

-- the same of the struct
abbrev pub laid : declared.Tables → Tables
laid t = tables t.sizes.now t.l_starts.now t.l_rows.now t.l_offsets.now

-- with the offsets that follow from the others
abbrev pub tables_of : (sizes l_starts l_rows : List ℕ) → Tables
tables_of sizes l_starts l_rows = tables sizes l_starts l_rows (offsets sizes l_starts l_rows)

module _ (t : Tables) where
  -- the same with where each unit factor begins, where each d begins, and the places of a working column
  abbrev pub plan_at : (unit_starts d_starts places : List ℕ) → Plan
  plan_at unit_starts d_starts places = plan t.sizes places t.l_rows t.l_offsets unit_starts d_starts

  -- the dimension of a block
  abbrev pub side : ℕ → ℕ
  side = at t.sizes

  -- column k in the row table: its first place, and the place behind its last
  abbrev pub start_of : ℕ → ℕ
  start_of = at t.l_starts

  abbrev pub stop_of : ℕ → ℕ
  stop_of k = at t.l_starts (k + 1)

  -- its rows
  abbrev pub rows_at : ℕ → List ℕ
  rows_at k = slot (start_of k) (stop_of k - start_of k) t.l_rows

  -- the blocks of the column j being worked
  abbrev pub on_at : ℕ → List ℕ
  on_at j = j ∷ rows_at j

  -- ---- L of n blocks in a list of so many values, its columns each in a working column of c numbers: every block lies in its list, and no two overlap

  pub record RowsLaid (n values c : ℕ) : Type 0 where
    pub count : (length t.sizes ≡ n) × (length t.l_starts ≡ n + 1) × (length t.l_offsets ≡ length t.l_rows + 1)
    pub size : (k : ℕ) → k < n → (1 ≤ side k) × (side k ≤ 16)
    -- the columns of the row table, one behind the other
    pub column : (k : ℕ) → k < n → (start_of k ≤ stop_of k) × (stop_of k ≤ length t.l_rows)
    pub after : (k j : ℕ) → k < j → j ≤ n → stop_of k ≤ start_of j
    -- the rows of a column: past the diagonal, ascending
    pub row : (k u : ℕ) → k < n → start_of k ≤ u → u < stop_of k → (k < at t.l_rows u) × (at t.l_rows u < n)
    pub ascends : (k : ℕ) → k < n → Inc (rows_at k)
    -- a body of L ends before each later one begins, and the last one in the values
    pub body : (k u v : ℕ) → k < n → start_of k ≤ u → u < stop_of k → u < v → v ≤ length t.l_rows
        → at t.l_offsets u + side (at t.l_rows u) * side k ≤ at t.l_offsets v
    pub bodies : at t.l_offsets (length t.l_rows) ≤ values
    -- a column packed lies in the working column
    pub packed : (j : ℕ) → j < n → side j * side j + (at t.l_offsets (stop_of j) - at t.l_offsets (start_of j)) ≤ c

  -- ---- the column j being worked: its diagonal block at 0, then its rows as in L's values

  pub record Placed (places : List ℕ) (j : ℕ) : Type 0 where
    pub own : at places j ≡ 0
    pub row : (u : ℕ) → start_of j ≤ u → u < stop_of j → at places (at t.l_rows u) ≡ side j * side j + (at t.l_offsets u - at t.l_offsets (start_of j))

-- ---- the diagonal

-- the area of each diagonal block
unfoldable pub squares : (sizes : List ℕ) → List ℕ
squares sizes = map {A = ℕ} {B = ℕ} (λ s. s * s) sizes

-- where each unit factor begins, and where the last one ends; d begins where its block's scalars do
abbrev pub unit_starts_of : (sizes : List ℕ) → List ℕ
unit_starts_of sizes = scalar_starts (squares sizes)

-- n unit factors in a list of so many numbers, and their d in another: each lies in its list, and no two overlap
pub record DiagonalLaid (sizes unit_starts d_starts : List ℕ) (n diag d : ℕ) : Type 0 where
  pub count : (length sizes ≡ n) × (length unit_starts ≡ n + 1) × (length d_starts ≡ n + 1)
  pub unit : (k j : ℕ) → k < j → j ≤ n → at unit_starts k + at sizes k * at sizes k ≤ at unit_starts j
  pub units : at unit_starts n ≤ diag
  pub pivots : (k j : ℕ) → k < j → j ≤ n → at d_starts k + at sizes k ≤ at d_starts j
  pub all_pivots : at d_starts n ≤ d

-- ---- how much each flat list needs; L's values need the areas of its blocks

abbrev pub units_need : (sizes : List ℕ) → ℕ
units_need sizes = scalar_count (squares sizes)

-- the greatest dimension
unfoldable pub widest : (sizes : List ℕ) → ℕ
widest [] = 0
widest (s ∷ ss) = max s (widest ss)

-- the working column: scalars times the largest dimension
abbrev pub work_need : (sizes : List ℕ) → ℕ
work_need sizes = scalar_count sizes * widest sizes
