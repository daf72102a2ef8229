-- The flat lists of a factorization after the machine's first columns, and one column more. Assumes nothing.
use Rattle.std.specs.Prelude.{◌≡◌, ℕ, suc, ◌+◌, ◌*◌, ◌<◌, ◌≤◌, List, length}
use Rattle.std.specs.Prelude.{Float, Result, Ok, Err}
use Rattle.refusal.specs.Refusal.{pivot_not_finite, poorly_conditioned}
use Rattle.graph.specs.Symbolic as L
use Rattle.graph.specs.Count.{column_triples}
use Rattle.elimination_tree.specs.Tree.{linked_up}
use Rattle.dense_pivots.specs.declared.LdltResult.{LdltResult}
use Rattle.block_diag_ldlt.specs.declared.cores.BlockError.{BlockError}
use Rattle.block_diag_ldlt.specs.declared.cores.BlockError.TheVariants.{NotFinite, Poor}
use Rattle.machine.specs.System.{System, blocks, links}
use Rattle.machine.specs.Machine.{State, going, stopped, run_to}
use Rattle.layout.specs.Layout.{Tables, rows_at}
use Rattle.load_column.specs.Load.{Fed}
use Rattle.finish_column.specs.Finish.{HoldsAll}
use Rattle.keep_column.specs.Keep.{KeptAll}
use Rattle.lists.specs.declared.Matrix.{Matrix}

-- the end of a column, with the count so far
abbrev pub turned_of : ℕ → Result LdltResult BlockError → Result ℕ BlockError
turned_of count (Ok r) = Ok count
turned_of count (Err e) = Err e

-- the count so far: at most 4,096² for each column
abbrev pub Counted : ℕ → Result ℕ BlockError → Type 0
Counted j (Ok count) = count ≤ 16777216 * (j + 1)
Counted j (Err e) = Unit {0}

-- what a system is fed with, and the order of its elimination
pub record Given : Type 0 where
  pub dims : List ℕ
  pub starts : List ℕ
  pub rows : List ℕ
  pub values : List Float
  pub order : List ℕ
  pub tol : Float

abbrev pub given : (dims starts rows : List ℕ) (values : List Float) (order : List ℕ) (tol : Float) → Given
given dims starts rows values order tol = record { dims = dims; starts = starts; rows = rows; values = values; order = order; tol = tol }

-- the same of the struct
abbrev pub given_of : Matrix → Float → Given
given_of a tol = given a.dims.now a.starts.now a.rows.now a.values.now a.order.now tol

-- The system a is fed with g; the upper pattern lists its links, and L's row table its columns.
pub record Served (t : Tables) (into upper : List ℕ) (g : Given) (a : System) : Type 0 where
  pub fed : Fed a g.dims g.starts g.rows g.values g.order
  pub by_tol : a.tol ≡ g.tol
  pub by_rows : (k : ℕ) → k < blocks a → L.rows (links a) (blocks a) k ≡ rows_at t k
  pub by_triples : (j : ℕ) → j < blocks a → column_triples (links a) (blocks a) j ≡ column_triples (linked_up into upper) (blocks a) j

module _ (t : Tables) (unit_starts d_starts : List ℕ) where
  -- The machine has done its first j columns: the flat lists hold them, the cache has their Q, and the count is that of its triples.
  pub record UpTo (a : System) (j : ℕ) (values diag d cache : List Float) (count : ℕ) : Type 0 where
    pub state : State
    pub going_on : run_to a j ≡ going state
    pub held : HoldsAll t unit_starts d_starts values diag d state.finished
    pub kept : KeptAll t unit_starts d_starts cache state.finished
    pub counted : count ≡ length state.done

  -- column j as it ended: one column more, or the machine's refusal
  abbrev pub After : System → ℕ → Result ℕ BlockError → (values diag d cache : List Float) → Type 0
  After a j (Ok count) values diag d cache = UpTo a (suc j) values diag d cache count
  After a j (Err (NotFinite place pivot)) values diag d cache = run_to a (suc j) ≡ stopped (pivot_not_finite j place pivot)
  After a j (Err (Poor condition)) values diag d cache = run_to a (suc j) ≡ stopped (poorly_conditioned j condition)

  -- the promise for one column, for every system that is served
  abbrev pub Turns : (into upper : List ℕ) (g : Given) (j : ℕ) (values diag d cache : List Float) (count : ℕ) → Result ℕ BlockError → (values' diag' d' cache' : List Float) → Type 0
  Turns into upper g j values diag d cache count r values' diag' d' cache' = (a : System) → Served t into upper g a → UpTo a j values diag d cache count → After a j r values' diag' d' cache'
