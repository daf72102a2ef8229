-- The solve, document 01's module 8: forward columns ascending, blocks, backward columns descending; rows ascending within a column.
-- Its meaning is on vectors by blocks, a list of numbers for each block; flat lists stand only at the edge. Assumes nothing.
use Rattle.std.specs.Prelude.{ℕ, ◌-◌, cond, List, [], ◌∷◌, map, eqb, Float, length, get_or}
use Rattle.std.specs.Float.{nan}
use Rattle.scalar.specs.Loop.{steps}
use Rattle.graph.specs.Sets.{from, gather}
use Rattle.buckets.specs.Buckets.{before}
use Rattle.tables.specs.Verdict.{at}
use Rattle.order.specs.Order.{sizes_of}
use Rattle.scalars.specs.Scalars.{scalar_perm}
use Rattle.kernel_vector.specs.Vector.{sub_mat_plus_vec}
use Rattle.kernel_vector_transpose.specs.VectorTranspose.{sub_mat_transpose_plus_vec}
use Rattle.dense_solve.specs.Solve.{ldlt_solve}
use Rattle.machine.specs.System.{inverse_of}
use Rattle.machine.specs.Machine.{Column}
use Rattle.block_product.specs.Working.{slot}

-- ---- vectors by blocks

-- the numbers of each block, by new number
abbrev pub Vector : Type 0
Vector = ℕ → List Float

-- x with the numbers y as its block i
abbrev pub put : ℕ → List Float → Vector → Vector
put i y x k = cond (eqb k i) y (x k)

-- what `for i in rows { a = f(i, a); }` leaves in `a`
unfoldable pub through : {A : Type 0} → (ℕ → A → A) → List ℕ → A → A
through f [] a = a
through f (i ∷ rows) a = through f rows (f i a)

-- ---- the three parts, for blocks of these dimensions and these columns of a factor, whose rows are listed ascending

module _ (dim : ℕ → ℕ) (col : ℕ → Column) where
  -- forward: block i loses L(i, j) x(j)
  abbrev pub forward_row : (j i : ℕ) → Vector → Vector
  forward_row j i x = put i (sub_mat_plus_vec (dim i) (dim j) (x i) ((col j).body i) (x j)) x

  -- for each row i of column j
  abbrev pub forward_column : ℕ → Vector → Vector
  forward_column j = through (forward_row j) (col j).rows

  -- columns ascending
  unfoldable pub forward : ℕ → Vector → Vector
  forward n = steps forward_column n

  -- block j is solved by its unit factor and d
  abbrev pub solved_block : ℕ → Vector → Vector
  solved_block j x = put j (ldlt_solve (dim j) (col j).unit (col j).d (x j)) x

  unfoldable pub solved_blocks : ℕ → Vector → Vector
  solved_blocks n = steps solved_block n

  -- backward: the block y of column j loses L(i, j)ᵀ x(i)
  abbrev pub backward_row : Vector → (j i : ℕ) → List Float → List Float
  backward_row x j i y = sub_mat_transpose_plus_vec (dim i) (dim j) y ((col j).body i) (x i)

  -- for each row i of the column
  abbrev pub backward_column : ℕ → Vector → Vector
  backward_column j x = put j (through (backward_row x j) (col j).rows (x j)) x

  -- columns descending
  abbrev pub backward_turn : ℕ → ℕ → Vector → Vector
  backward_turn n t = backward_column (n - 1 - t)

  unfoldable pub backward : ℕ → Vector → Vector
  backward n = steps (backward_turn n) n

  -- all three
  abbrev pub solved : ℕ → Vector → Vector
  solved n x = backward n (solved_blocks n (forward n x))

-- ---- at the edge

-- the entries of l at these places
abbrev pub taken : List Float → List ℕ → List Float
taken l places = map {A = ℕ} {B = Float} (λ p. get_or l p nan) places

-- perm[new] = old. A right side by new number: y[new] = b[perm[new]]
unfoldable pub permuted : (perm : List ℕ) → List Float → List Float
permuted perm b = taken b perm

-- and back: x[perm[new]] = y[new], so each old scalar takes the number of its new one
unfoldable pub unpermuted : (perm : List ℕ) → List Float → List Float
unpermuted perm y = taken y (inverse_of (length perm) perm)

-- the blocks of a flat list, of these dimensions, one behind the other
abbrev pub blocks_of : (sizes : List ℕ) → List Float → Vector
blocks_of sizes y k = slot (before sizes k) (at sizes k) y

-- a vector of n blocks as a flat list
abbrev pub flat : ℕ → Vector → List Float
flat n x = gather {A = Float} x (from 0 n)

-- The solution for the right side b, both in old order. dims: the dimensions by old number; order: the old number of each new block.
unfoldable pub solution : (dims order : List ℕ) → (ℕ → Column) → List Float → List Float
solution dims order col b =
    unpermuted (scalar_perm dims order)
    (flat (length dims) (solved (at (sizes_of dims order)) col (length dims) (blocks_of (sizes_of dims order) (permuted (scalar_perm dims order) b))))
