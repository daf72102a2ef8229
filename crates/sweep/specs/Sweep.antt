-- A sweep on a flat list: what it needs, and what it leaves. Assumes nothing.
use Rattle.std.specs.Prelude.{◌≡◌, ℕ, ◌+◌, ◌-◌, ◌*◌, ◌≤◌, List, length}
use Rattle.std.specs.Prelude.{Float}
use Rattle.scalar.specs.Loop.{steps}
use Rattle.scalar.specs.Block.{within}
use Rattle.tables.specs.Verdict.{at}
use Rattle.block_product.specs.Working.{slot}
use Rattle.layout.specs.Layout.{Tables, tables, side, start_of, stop_of, RowsLaid, work_need}
use Rattle.solution.specs.Flat.{BlocksLaid}
use Rattle.sweep.specs.declared.Rows.{Rows}

-- ---- what is needed

abbrev pub rows_of : Rows → Tables
rows_of r = tables r.sizes.now r.l_starts.now r.l_rows.now r.l_offsets.now

-- L's blocks lie in its values, and the blocks of the vector in a list of m numbers
pub record Laid (r : Rows) (m : ℕ) : Type 0 where
  pub rows : RowsLaid (rows_of r) (length r.sizes.now) (length r.l_values.now) (work_need r.sizes.now)
  pub blocks : BlocksLaid r.sizes.now r.starts.now m

-- ---- what is left

-- the column of turn t of n; the list y after a row of h numbers from t on, of a column of w numbers from s on, whose body is a
pub record Pass : Type 0 where
  pub column : (n t : ℕ) → ℕ
  pub row : (h w : ℕ) (a : List Float) (s t : ℕ) (y : List Float) → List Float

-- a row of p makes x' and y' of the column's numbers x and its own y, wherever both stand in a list
abbrev pub Touches : Pass → (h w : ℕ) (a x y x' y' : List Float) → Type 0
Touches p h w a x y x' y' =
    (s t : ℕ) (z : List Float) → s + w ≤ t → t + h ≤ length z → slot s w z ≡ x → slot t h z ≡ y
    → p.row h w a s t z ≡ within t h (λ _. y') (within s w (λ _. x') z)

module _ (p : Pass) (t : Tables) (starts : List ℕ) (l_values : List Float) where
  -- after the row at place u of column j
  abbrev pub row_done : (j u : ℕ) → List Float → List Float
  row_done j u = p.row (side t (at t.l_rows u)) (side t j) (slot (at t.l_offsets u) (side t (at t.l_rows u) * side t j) l_values) (at starts j) (at starts (at t.l_rows u))

  -- after the first m rows of column j
  abbrev pub rows_done : (j m : ℕ) → List Float → List Float
  rows_done j = steps (λ k. row_done j (start_of t j + k))

  -- after all of them
  abbrev pub column_done : ℕ → List Float → List Float
  column_done j = rows_done j (stop_of t j - start_of t j)

  -- after the first m turns
  abbrev pub turns_done : ℕ → List Float → List Float
  turns_done = steps (λ k. column_done (p.column (length t.sizes) k))

  -- after n columns
  abbrev pub swept : ℕ → List Float → List Float
  swept = turns_done
