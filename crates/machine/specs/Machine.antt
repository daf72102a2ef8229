-- The plain machine of document 01, module 7: its state, its steps, and its run over the columns. It has no plan: the rows of a column are
-- those that its steps touched, and the parent of a column is the first of its rows. Assumes nothing.
use Rattle.std.specs.Prelude.{ℕ, suc, ◌+◌, ◌-◌, ◌*◌, Bool, true, false, cond, List, [], ◌∷◌, ◌++◌, map, ltb, eqb, length, get_or, Float, Result, Ok, Err}
use Rattle.std.proofs.Math.Option.{Option, none, some}
use Rattle.std.specs.Float.{binary64}
use Rattle.std.specs.Float.Ieee.{mul}
use Rattle.scalar.specs.Loop.{steps}
use Rattle.scalar.specs.Block.{at, gain, zeros}
use Rattle.refusal.specs.Refusal.{Told, accepted, pivot_not_finite, poorly_conditioned}
use Rattle.graph.specs.Sets.{elem, filter, from, between, gather}
use Rattle.graph.specs.Symbolic.{reach, first}
use Rattle.graph.specs.Count.{Triple, triple}
use Rattle.kernel_product.specs.Product.{sub_mat_diag_mat_t}
use Rattle.block_diag_ldlt.specs.Block.{block_ldlt}
use Rattle.dense_pivots.specs.declared.LdltResult.{LdltResult}
use Rattle.block_diag_ldlt.specs.declared.cores.BlockError.{BlockError}
use Rattle.block_diag_ldlt.specs.declared.cores.BlockError.TheVariants.{NotFinite, Poor}
use Rattle.dense_solve_right.specs.SolveRight.{ldlt_right_matsolve}
use Rattle.machine.specs.System.{System, blocks, links, dim, loaded_row}

-- ---- the state

-- a finished column of L: its rows past the diagonal, ascending, and the body of each; its diagonal block's unit factor, and d
pub record Column : Type 0 where
  pub rows : List ℕ
  pub body : ℕ → List Float
  pub unit : List Float
  pub d : List Float

pub record State : Type 0 where
  -- the columns finished so far
  pub finished : List Column
  -- the column being worked: the body of each row that was touched
  pub work : ℕ → Option (List Float)
  -- the block products done so far
  pub done : List Triple

abbrev pub no_column : Column
no_column = record { rows = []; body = λ i. []; unit = []; d = [] }

-- column k of L, and its rows
abbrev pub column_at : State → ℕ → Column
column_at s k = get_or s.finished k no_column

abbrev pub rows_at : State → ℕ → List ℕ
rows_at s k = (column_at s k).rows

-- Liu's parent of column k
abbrev pub parent_at : State → ℕ → Option ℕ
parent_at s k = first (rows_at s k)

-- ---- the column being worked

abbrev pub touched : Option (List Float) → Bool
touched none = false
touched (some b) = true

-- the body of a row; one that was not touched is zeros
abbrev pub body_or : (size : ℕ) → Option (List Float) → List Float
body_or size none = zeros size
body_or size (some b) = b

-- the column with the body b in row i
abbrev pub touch : ℕ → List Float → (ℕ → Option (List Float)) → ℕ → Option (List Float)
touch i b work r = cond (eqb r i) (some b) (work r)

-- ---- load column j

-- what A stores of it; no other row is touched yet
unfoldable pub load : System → ℕ → State → State
load a j s = record { finished = s.finished; work = loaded_row a j; done = s.done }

-- ---- one block product

-- the entry (r, c) of A B, A of h rows and m columns: it starts from the product at t = 0, and adds the others in ascending t
abbrev pub product_entry : (h m : ℕ) → (a b : List Float) → ℕ → ℕ → Float
product_entry h m a b r c = steps (λ t s. gain s (at a h r (t + 1)) (at b m (t + 1) c)) (m - 1) (mul binary64 (at a h r 0) (at b m 0 c))

-- A B, B of m rows and w columns, column by column
unfoldable pub mat_product : (h m w : ℕ) → (a b : List Float) → List Float
mat_product h m w a b = gather {A = Float} (λ c. map {A = ℕ} {B = Float} (λ r. product_entry h m a b r c) (from 0 h)) (from 0 w)

module _ (dim : ℕ → ℕ) where
  -- Q(i) = L(i, k) times the unit factor of k, all of its square: its ones and zeros too
  abbrev pub scaled : Column → ℕ → ℕ → List Float
  scaled col i k = mat_product (dim i) (dim k) (dim k) (col.body i) col.unit

  -- the body y of block (i, j) loses Q(i) d Q(j)ᵀ
  abbrev pub reduced : Column → (i j k : ℕ) → List Float → List Float
  reduced col i j k y = sub_mat_diag_mat_t (dim i) (dim j) (dim k) y (scaled col i k) col.d (scaled col j k)

  -- The block product (i, j, k), zeros or not: the only step that appends a triple.
  unfoldable pub product : (i j k : ℕ) → State → State
  product i j k s =
      record {
        finished = s.finished;
        work = touch i (reduced (column_at s k) i j k (body_or (dim i * dim j) (s.work i))) s.work;
        done = s.done ++ (triple j k i ∷ []);
      }

  -- block products, one after the other
  unfoldable pub products : List Triple → State → State
  products [] s = s
  products (t ∷ ts) s = products ts (product t.i t.j t.k s)

-- ---- all block products of column j

-- the columns that reach j, last found first
abbrev pub reached : System → ℕ → State → List ℕ
reached a j s = reach (links a) (blocks a) (parent_at s) j

-- those of column j by column k: i = j, then each stored row i > j of column k
abbrev pub sequence_by : ℕ → State → ℕ → List Triple
sequence_by j s k = map (triple j k) (j ∷ filter (λ i. ltb j i) (rows_at s k))

-- for each k that reaches j, in that order, where L(j, k) is stored
unfoldable pub sequence : System → ℕ → State → List Triple
sequence a j s = gather (sequence_by j s) (filter (λ k. elem j (rows_at s k)) (reached a j s))

-- column j loaded, and its products done
abbrev pub worked : System → ℕ → State → State
worked a j s = products (dim a) (sequence a j s) (load a j s)

-- ---- finish column j

-- what becomes of it: a column of L, or 13 or 14
pub data Made : Type 0 where
  made : Column → Made
  refused : Told → Made

-- its diagonal block decomposed: the touched rows below, ascending, each of them right-solved
abbrev pub solved : System → ℕ → State → (unit d : List Float) → Column
solved a j s unit d =
    record {
      rows = filter (λ i. touched (s.work i)) (between (suc j) (blocks a));
      body = λ i. ldlt_right_matsolve (dim a i) (dim a j) unit d (body_or (dim a i * dim a j) (s.work i));
      unit = unit;
      d = d;
    }

unfoldable pub settled_by : System → ℕ → State → Result LdltResult BlockError × List Float × List Float → Made
settled_by a j s (Ok r, unit, d) = made (solved a j s unit d)
settled_by a j s (Err (NotFinite place pivot), unit, d) = refused (pivot_not_finite j place pivot)
settled_by a j s (Err (Poor condition), unit, d) = refused (poorly_conditioned j condition)

unfoldable pub finish : System → ℕ → State → Made
finish a j s = settled_by a j s (block_ldlt (dim a j) a.tol (body_or (dim a j * dim a j) (s.work j)))

-- all of this: what becomes of column j
abbrev pub made_of : System → ℕ → State → Made
made_of a j s = finish a j (worked a j s)

-- ---- the run

-- the machine between two columns, or the refusal at which it stopped
pub data Run : Type 0 where
  going : State → Run
  stopped : Told → Run

-- a column of L is stored behind the others
unfoldable pub stored : State → Made → Run
stored s (made c) = going (record { finished = s.finished ++ (c ∷ []); work = λ i. none; done = s.done })
stored s (refused t) = stopped t

-- column j, from the load to the store
unfoldable pub work_column : System → ℕ → Run → Run
work_column a j (going s) = stored (worked a j s) (made_of a j s)
work_column a j (stopped t) = stopped t

abbrev pub start : State
start = record { finished = []; work = λ i. none; done = [] }

-- the first j columns, ascending, up to the first that is refused
unfoldable pub run_to : System → ℕ → Run
run_to a j = steps (work_column a) j (going start)

-- all of them
abbrev pub run : System → Run
run a = run_to a (blocks a)

-- document 01's number and values for each outcome; an accepted run hands back the count, which is the length of the list of triples
abbrev pub told : Run → Told
told (going s) = accepted (length s.done ∷ []) []
told (stopped t) = t
