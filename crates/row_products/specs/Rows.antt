-- The products of column j by some rows of column k. Assumes nothing.
use Rattle.std.specs.Prelude.{◌≡◌, ℕ, ◌+◌, ◌*◌, ◌<◌, ◌≤◌, T, List, map, length}
use Rattle.std.specs.Prelude.{Float}
use Rattle.graph.specs.Sets.{elem}
use Rattle.graph.specs.Count.{triple}
use Rattle.tables.specs.Verdict.{at}
use Rattle.machine.specs.Machine.{State, Column, column_at, scaled, product, products}
use Rattle.block_product.specs.Working.{slot, Apart, Shows, scaled_by_d}

-- ---- what is needed: every block that is read or written lies in its list

pub record RowsFit (sizes places rows offsets : List ℕ) (j k values room c : ℕ) : Type 0 where
  pub as_many : length offsets ≡ length rows
  pub row : (t : ℕ) → t < length rows → (at rows t < length sizes) × (at rows t < length places)
  -- L(i, k), Q(i) and block (i, j)
  pub body : (t : ℕ) → t < length rows → at offsets t + at sizes (at rows t) * at sizes k ≤ values
  pub scaled_row : (t : ℕ) → t < length rows → at sizes (at rows t) * at sizes k ≤ room
  pub block : (t : ℕ) → t < length rows → at places (at rows t) + at sizes (at rows t) * at sizes j ≤ c

-- ---- what is promised

-- What is lent of row i of column k, whose body begins at o: the body, its Q(i) in the cache where the cache is long enough, the unit
-- factor, and Q(j) d. The column c and the count become c' and count'; block (i, j) begins at `here`.
module _ (dim : ℕ → ℕ) (i j k : ℕ) where
  pub record LentRow (o : ℕ) (values cache unit qj : List Float) (col : Column) : Type 0 where
    pub body : slot o (dim i * dim k) values ≡ col.body i
    pub kept : o + dim i * dim k ≤ length cache → slot o (dim i * dim k) cache ≡ scaled dim col i k
    pub by_unit : unit ≡ col.unit
    pub by_q : qj ≡ scaled_by_d dim col j k

  pub record RowProduct (o here : ℕ) (values cache unit qj c : List Float) (count : ℕ) (c' : List Float) (count' : ℕ) : Type 0 where
    pub counts : count' ≡ count + 1
    pub step : (place : ℕ → ℕ) (on : List ℕ) → T (elem i on) → place i ≡ here → Apart dim place on j
        → (s : State) → LentRow o values cache unit qj (column_at s k) → Shows dim place on j c count s → Shows dim place on j c' count' (product dim i j k s)

module _ (dim place : ℕ → ℕ) (j k : ℕ) where
  -- what is lent of column k: the bodies of the rows at their offsets, what the cache has of their Q(i), the unit factor, and Q(j) d
  pub record LentRows (rows offsets : List ℕ) (values cache unit qj : List Float) (col : Column) : Type 0 where
    pub kept : (t : ℕ) → t < length rows → at offsets t + dim (at rows t) * dim k ≤ length cache → slot (at offsets t) (dim (at rows t) * dim k) cache ≡ scaled dim col (at rows t) k
    pub bodies : (t : ℕ) → t < length rows → slot (at offsets t) (dim (at rows t) * dim k) values ≡ col.body (at rows t)
    pub by_unit : unit ≡ col.unit
    pub by_q : qj ≡ scaled_by_d dim col j k

  -- where the working column and the count showed a state, they show the one after the block products (i, j, k) of the rows `did`, in their order
  abbrev pub RowSteps : (rows offsets : List ℕ) → (values cache unit qj c : List Float) → ℕ → (did : List ℕ) → List Float → ℕ → Type 0
  RowSteps rows offsets values cache unit qj c count did c' count' =
      (on : List ℕ) → ((i : ℕ) → T (elem i rows) → T (elem i on)) → Apart dim place on j
      → (s : State) → LentRows rows offsets values cache unit qj (column_at s k) → Shows dim place on j c count s
      → Shows dim place on j c' count' (products dim (map (triple j k) did) s)

  pub record RowProducts (rows offsets : List ℕ) (values cache unit qj c : List Float) (count : ℕ) (c' : List Float) (count' : ℕ) : Type 0 where
    -- as many greater as there are rows
    pub counts : count' ≡ count + length rows
    pub steps : RowSteps rows offsets values cache unit qj c count rows c' count'
