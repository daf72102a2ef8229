-- What the machine is fed with: A's tables and values, the permutation, the late flags and the tolerance, and nothing else.
-- Blocks of A go by their old numbers, blocks of the machine by their new ones. Assumes nothing.
use Rattle.std.specs.Prelude.{ℕ, min, max, Bool, cond, not, ◌&&◌, List, map, leb, eqb, length, Float}
use Rattle.std.proofs.Math.Option.{Option, none, some}
use Rattle.std.specs.Float.{binary64}
use Rattle.std.specs.Float.Ieee.{add}
use Rattle.graph.specs.Sets.{elem, from}
use Rattle.graph.specs.Links.{rows_in, linked_of}
use Rattle.graph.specs.Order.{moved}
use Rattle.scalar.specs.Scalar.{nought}
use Rattle.tables.specs.Search.{first}
use Rattle.tables.specs.Verdict.{at}
use Rattle.order.specs.Order.{sizes_of}
use Rattle.scalars.specs.Bodies.{place_of, permuted_body}

pub record System : Type 0 where
  -- the dimension of each block
  pub dims : List ℕ
  -- where each column of A begins in the table of rows, and where the last one ends
  pub starts : List ℕ
  pub rows : List ℕ
  -- the bodies of A's blocks, back to back
  pub values : List Float
  -- the planner's permutation: the old number of each new one
  pub perm : List ℕ
  -- the late flags, by old number
  pub late : List ℕ
  pub tol : Float

-- the new number of each old one of n
unfoldable pub inverse_of : (n : ℕ) → (order : List ℕ) → List ℕ
inverse_of n order = map {A = ℕ} {B = ℕ} (λ o. first (λ k. not (eqb (at order k) o)) 0 n) (from 0 n)

module _ (a : System) where
  -- the number of blocks
  abbrev pub blocks : ℕ
  blocks = length a.dims

  -- the permutation after the late move, which alone reads the flags
  abbrev pub order : List ℕ
  order = moved a.perm a.late

  -- which blocks are linked: by A's tables under that permutation
  abbrev pub links : ℕ → ℕ → Bool
  links = linked_of a.starts a.rows a.perm a.late

  -- the dimension of a block
  abbrev pub dim : ℕ → ℕ
  dim p = at (sizes_of a.dims order) p

  -- ---- the block (i, j) of the permuted matrix, j the column, i from j on

  -- its two old numbers: A has the greater as row
  abbrev pub old_row : ℕ → ℕ → ℕ
  old_row i j = max (at order i) (at order j)

  abbrev pub old_column : ℕ → ℕ → ℕ
  old_column i j = min (at order i) (at order j)

  -- do A's tables hold it?
  abbrev pub holds : ℕ → ℕ → Bool
  holds i j = elem (old_row i j) (rows_in a.starts a.rows (old_column i j))

  -- its body under new numbers: transposed where A's block lands above the diagonal
  abbrev pub body_of : ℕ → ℕ → List Float
  body_of i j = permuted_body a.dims a.starts a.rows a.values (inverse_of blocks order) (place_of a.starts a.rows (old_row i j) (old_column i j))

  -- as it is loaded: 0.0 + value
  unfoldable pub loaded : ℕ → ℕ → List Float
  loaded i j = map {A = Float} {B = Float} (add binary64 nought) (body_of i j)

  -- row i of column j as it is loaded; none above the diagonal, and where A stores no block
  abbrev pub loaded_row : ℕ → ℕ → Option (List Float)
  loaded_row j i = cond (leb j i && holds i j) (some (loaded i j)) none
