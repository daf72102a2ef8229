-- What the solve needs of its tables, and what it promises. Assumes nothing.
use Rattle.std.specs.Prelude.{◌≡◌, ℕ, ◌+◌, ◌≤◌, List, ◌++◌, length, drop, replicate}
use Rattle.std.specs.Prelude.{Float}
use Rattle.scalar.specs.Block.{zeros}
use Rattle.graph.specs.Order.{Permutes}
use Rattle.tables.specs.Verdict.{areas, past_diagonal}
use Rattle.tables.specs.Sound.{Sizes, Columns}
use Rattle.order.specs.Order.{sizes_of}
use Rattle.scalars.specs.Scalars.{scalar_count}
use Rattle.scalars.specs.Bodies.{offsets}
use Rattle.machine.specs.Machine.{Column}
use Rattle.lists.specs.declared.Factor.{Factor}
use Rattle.layout.specs.Layout.{Tables, tables, side, units_need}
use Rattle.solution.specs.Solution.{Vector, solved, solution}
use Rattle.solution.specs.Flat.{HoldsColumns, ShowsVector}

-- the dimensions, the order of elimination, the columns of L and where their bodies lie are good, and the flat lists of the factor
-- have so many numbers
pub record Solvable (dims order l_starts l_rows l_offsets : List ℕ) (l_values diag d : ℕ) : Type 0 where
  pub blocks : length dims ≤ 4096
  pub sizes : Sizes dims
  pub permutes : Permutes (length dims) order
  pub columns : Columns past_diagonal (length dims) l_starts l_rows
  pub bodies : l_offsets ≡ offsets (sizes_of dims order) l_starts l_rows
  pub values : l_values ≡ areas (sizes_of dims order) l_starts l_rows
  pub units : diag ≡ units_need dims
  pub pivots : d ≡ scalar_count dims

-- the same of the struct
abbrev pub FactorFits : (dims : List ℕ) → Factor → Type 0
FactorFits dims f = Solvable dims f.order.now f.l_starts.now f.l_rows.now f.l_offsets.now (length f.l_values.now) (length f.diag.now) (length f.d.now)

-- how long the right side and each scratch list is
pub record SolveRoom (dims : List ℕ) (x y perm sizes starts : ℕ) : Type 0 where
  pub of_x : x ≡ scalar_count dims
  pub of_y : y ≡ scalar_count dims
  pub of_perm : perm ≡ scalar_count dims
  pub of_sizes : sizes ≡ length dims
  pub of_starts : starts ≡ length dims + 1

-- the right side x becomes the solution x', with all columns that the flat lists hold
abbrev pub SolvedBy : (dims order l_starts l_rows l_offsets : List ℕ) (l_values diag d x x' : List Float) → Type 0
SolvedBy dims order l_starts l_rows l_offsets l_values diag d x x' =
    (col : ℕ → Column) → HoldsColumns (tables (sizes_of dims order) l_starts l_rows l_offsets) l_values diag d (length dims) col → x' ≡ solution dims order col x

-- the same with the struct
abbrev pub SolvedWith : (dims : List ℕ) → Factor → (x x' : List Float) → Type 0
SolvedWith dims f x x' = SolvedBy dims f.order.now f.l_starts.now f.l_rows.now f.l_offsets.now f.l_values.now f.diag.now f.d.now x x'

-- by new number: where the flat list y showed a vector, it shows the solved one
abbrev pub Substitutes : (t : Tables) (starts : List ℕ) (l_values diag d y y' : List Float) → Type 0
Substitutes t starts l_values diag d y y' =
    (col : ℕ → Column) → HoldsColumns t l_values diag d (length t.sizes) col → (x : Vector) → ShowsVector t.sizes starts y x
    → ShowsVector t.sizes starts y' (solved (side t) col (length t.sizes) x)

-- scratch that may be longer than its need is zeros in its needed part, and beyond it as it was
pub record Cleared (dims : List ℕ) (y : List Float) (perm sizes starts : List ℕ) (y' : List Float) (perm' sizes' starts' : List ℕ) : Type 0 where
  pub of_y : y' ≡ zeros (scalar_count dims) ++ drop (scalar_count dims) y
  pub of_perm : perm' ≡ replicate (scalar_count dims) 0 ++ drop (scalar_count dims) perm
  pub of_sizes : sizes' ≡ replicate (length dims) 0 ++ drop (length dims) sizes
  pub of_starts : starts' ≡ replicate (length dims + 1) 0 ++ drop (length dims + 1) starts
