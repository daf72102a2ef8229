-- How a flat list holds the column that the machine works on, and what one block product promises. Assumes nothing.
--
-- A flat list has slots: `slot off size x` is what stands there. It shows a state of the machine where each slot in use is the body that
-- the state names: one equation a block, and nothing is said of the places between. How the slots are laid out is not said either, only
-- that each ends before that of any later row begins. The state is no argument of the code, so a promise binds it: it holds for every
-- state that the list shows.
use Rattle.std.specs.Prelude.{◌≡◌, ℕ, ◌+◌, ◌*◌, ◌<◌, ◌≤◌, T, List, length, take, drop}
use Rattle.std.specs.Prelude.{Float}
use Rattle.graph.specs.Sets.{elem}
use Rattle.tiled_product.specs.Tiled.{times_diag}
use Rattle.machine.specs.Machine.{State, Column, column_at, body_or, scaled, product}

-- the `size` elements of x from `off` on
module _ {A : Type 0} where
  abbrev pub slot : (off size : ℕ) → List A → List A
  slot off size x = take size (drop off x)

-- ---- the column being worked: j its number, `on` the rows in use, `place i` where block (i, j) begins

module _ (dim place : ℕ → ℕ) (on : List ℕ) (j : ℕ) where
  -- a block ends before those of the later rows begin
  abbrev pub Apart : Type 0
  Apart = (p r : ℕ) → T (elem p on) → T (elem r on) → p < r → place p + dim p * dim j ≤ place r

  -- The flat list c and the count show the state s.
  pub record Shows (c : List Float) (count : ℕ) (s : State) : Type 0 where
    -- each block of a row in use is the machine's: zeros where no step has touched it yet
    pub blocks : (i : ℕ) → T (elem i on) → slot (place i) (dim i * dim j) c ≡ body_or (dim i * dim j) (s.work i)
    -- the count is that of the triples done
    pub counted : count ≡ length s.done

-- ---- one block product

-- Q(j) d
abbrev pub scaled_by_d : (dim : ℕ → ℕ) → Column → ℕ → ℕ → List Float
scaled_by_d dim col j k = times_diag (dim j) (dim k) col.d (scaled dim col j k)

module _ (dim : ℕ → ℕ) (i j k : ℕ) where
  -- what is lent of column k: Q(i) and Q(j) d
  pub record Lent (qi qj : List Float) (col : Column) : Type 0 where
    pub by_row : qi ≡ scaled dim col i k
    pub by_q : qj ≡ scaled_by_d dim col j k

  -- The column c and the count become c' and count'; block (i, j) begins at `here`.
  pub record OneProduct (here : ℕ) (qi qj c : List Float) (count : ℕ) (c' : List Float) (count' : ℕ) : Type 0 where
    -- one greater
    pub counts : count' ≡ count + 1
    -- the machine's step: where they showed a state, they show the one after the block product (i, j, k)
    pub step : (place : ℕ → ℕ) (on : List ℕ) → T (elem i on) → place i ≡ here → Apart dim place on j
        → (s : State) → Lent qi qj (column_at s k) → Shows dim place on j c count s → Shows dim place on j c' count' (product dim i j k s)
