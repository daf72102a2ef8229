-- The two steps of the end of column j on flat lists: its diagonal block, and its rows. Assumes nothing.
use Rattle.std.specs.Prelude.{◌≡◌, ℕ, ◌+◌, ◌*◌, ◌<◌, ◌≤◌, List, length}
use Rattle.std.specs.Prelude.{Float, Result}
use Rattle.dense_solve_right.specs.SolveRight.{ldlt_right_matsolve}
use Rattle.block_diag_ldlt.specs.Block.{block_ldlt}
use Rattle.dense_pivots.specs.declared.LdltResult.{LdltResult}
use Rattle.block_diag_ldlt.specs.declared.cores.BlockError.{BlockError}
use Rattle.tables.specs.Verdict.{at}
use Rattle.block_product.specs.Working.{slot}
use Rattle.layout.specs.Layout.{Tables, side, start_of, stop_of}

-- ---- the diagonal block

module _ (sizes places unit_starts d_starts : List ℕ) (j : ℕ) where
  -- what is needed: the block, its unit factor and its d lie in lists of so many numbers
  pub record BlockFit (c diag d : ℕ) : Type 0 where
    pub known : (j < length sizes) × (j < length places) × (j < length unit_starts) × (j < length d_starts)
    pub block : at places j + at sizes j * at sizes j ≤ c
    pub unit : at unit_starts j + at sizes j * at sizes j ≤ diag
    pub of_d : at d_starts j + at sizes j ≤ d

  -- what is promised: the answer is that of the block, whose unit factor and d stand in their places; before them nothing is changed
  pub record Decomposes (tol : Float) (c diag d : List Float) (r : Result LdltResult BlockError) (diag' d' : List Float) : Type 0 where
    pub factors : (r, slot (at unit_starts j) (at sizes j * at sizes j) diag', slot (at d_starts j) (at sizes j) d')
        ≡ block_ldlt (at sizes j) tol (slot (at places j) (at sizes j * at sizes j) c)
    pub units_before : (o n : ℕ) → o + n ≤ at unit_starts j → slot o n diag' ≡ slot o n diag
    pub d_before : (o n : ℕ) → o + n ≤ at d_starts j → slot o n d' ≡ slot o n d

-- ---- the rows, at the places of column j in the tables

module _ (t : Tables) (places : List ℕ) (j : ℕ) where
  -- what is needed: each block of the working column and each body lies in its list, and a body ends before the later ones begin
  pub record StoreFit (c values : ℕ) : Type 0 where
    pub in_tables : (j + 1 < length t.l_starts) × (start_of t j ≤ stop_of t j) × (stop_of t j ≤ length t.l_rows) × (stop_of t j ≤ length t.l_offsets)
    pub row : (u : ℕ) → start_of t j ≤ u → u < stop_of t j → (at t.l_rows u < length t.sizes) × (at t.l_rows u < length places)
    pub block : (u : ℕ) → start_of t j ≤ u → u < stop_of t j → at places (at t.l_rows u) + side t (at t.l_rows u) * side t j ≤ c
    pub body : (u : ℕ) → start_of t j ≤ u → u < stop_of t j → at t.l_offsets u + side t (at t.l_rows u) * side t j ≤ values
    pub after : (u v : ℕ) → start_of t j ≤ u → u < v → v < stop_of t j → at t.l_offsets u + side t (at t.l_rows u) * side t j ≤ at t.l_offsets v

  -- what is promised of those before `end`: each block, right-solved, stands at its offset; what ends before all of them is not changed
  pub record Stores (end : ℕ) (unit d c values values' : List Float) : Type 0 where
    pub own : (u : ℕ) → start_of t j ≤ u → u < end → slot (at t.l_offsets u) (side t (at t.l_rows u) * side t j) values'
        ≡ ldlt_right_matsolve (side t (at t.l_rows u)) (side t j) unit d (slot (at places (at t.l_rows u)) (side t (at t.l_rows u) * side t j) c)
    pub before : (o n : ℕ) → ((u : ℕ) → start_of t j ≤ u → u < end → o + n ≤ at t.l_offsets u) → slot o n values' ≡ slot o n values
