-- A factor in lists exactly as long as its tables and numbers: what each holds, for the system that the factor is made from. Assumes nothing.
use Rattle.std.specs.Prelude.{◌≡◌, ℕ, List, length, take, replicate}
use Rattle.std.specs.Prelude.{Float}
use Rattle.scalar.specs.Block.{nans}
use Rattle.graph.specs.Sets.{from, gather}
use Rattle.buckets.specs.Buckets.{lengths}
use Rattle.graph.specs.Symbolic.{columns}
use Rattle.elimination_tree.specs.Tree.{parents_of}
use Rattle.pattern.specs.Moved.{UpperOf}
use Rattle.order.specs.Order.{sizes_of}
use Rattle.symbolic.specs.Columns.{numbers_of}
use Rattle.analysis.specs.Plan.{stored_of, starts_of, rows_of}
use Rattle.scalars.specs.Scalars.{scalar_starts, scalar_count}
use Rattle.scalars.specs.Bodies.{offsets}
use Rattle.machine.specs.System.{System, blocks, links, order}
use Rattle.machine.specs.Machine.{column_at, rows_at, Run, going, stopped}
use Rattle.layout.specs.Layout.{unit_starts_of, units_need, work_need}
use Rattle.factor_setup.specs.declared.System as declared

abbrev pub system : (dims starts rows : List ℕ) (values : List Float) (perm late : List ℕ) (tol : Float) → System
system dims starts rows values perm late tol =
    record { dims = dims; starts = starts; rows = rows; values = values; perm = perm; late = late; tol = tol }

-- what a factorization is handed
abbrev pub handed : declared.System → System
handed s = system s.dims.now s.starts.now s.rows.now s.values.now s.perm.now s.late.now s.tol

module _ (a : System) where
  -- the dimensions by new number
  abbrev pub sizes : List ℕ
  sizes = sizes_of a.dims (order a)

  -- L's blocks, and L's numbers
  abbrev pub stored : ℕ
  stored = stored_of (links a) (blocks a)

  abbrev pub numbers : ℕ
  numbers = numbers_of (links a) (blocks a) sizes

  -- L's tables: where each column begins, the rows, where each body begins
  abbrev pub l_starts : List ℕ
  l_starts = starts_of (links a) (blocks a)

  abbrev pub l_rows : List ℕ
  l_rows = rows_of (links a) (blocks a)

  abbrev pub l_offsets : List ℕ
  l_offsets = offsets sizes l_starts l_rows

  -- ---- the flat lists after a run: those of its last state, or NaN in full

  -- the bodies of L's rows, column after column
  abbrev pub values_after : Run → List Float
  values_after (going s) = gather {A = Float} (λ k. gather {A = Float} (column_at s k).body (rows_at s k)) (from 0 (blocks a))
  values_after (stopped t) = nans numbers

  -- the unit factors of the diagonal blocks
  abbrev pub units_after : Run → List Float
  units_after (going s) = gather {A = Float} (λ k. (column_at s k).unit) (from 0 (blocks a))
  units_after (stopped t) = nans (units_need a.dims)

  -- d
  abbrev pub pivots_after : Run → List Float
  pivots_after (going s) = gather {A = Float} (λ k. (column_at s k).d) (from 0 (blocks a))
  pivots_after (stopped t) = nans (scalar_count a.dims)

  -- ---- what the analysis leaves: the links by upper columns, the tree, and how many rows each column of L has

  pub record Analyzed (into upper tree count : List ℕ) : Type 0 where
    pub listed : UpperOf (blocks a) (links a) into upper
    pub parents : tree ≡ parents_of (links a) (blocks a)
    pub counted : count ≡ lengths (columns (links a) (blocks a) (blocks a))

  -- ---- the tables that the numbers are worked with

  pub record Tabled (moved starts' rows' offsets' sizes' bodies unit_starts d_starts next stamps : List ℕ) : Type 0 where
    pub by_order : moved ≡ order a
    pub by_starts : starts' ≡ l_starts
    pub by_rows : rows' ≡ l_rows
    pub by_offsets : offsets' ≡ l_offsets
    pub by_sizes : sizes' ≡ sizes
    pub by_bodies : bodies ≡ offsets a.dims a.starts a.rows
    pub by_units : unit_starts ≡ unit_starts_of sizes
    pub by_pivots : d_starts ≡ scalar_starts sizes
    -- the next places begin with the first of each column, and no block is stamped
    pub by_next : next ≡ take (blocks a) l_starts
    pub by_stamps : stamps ≡ replicate (blocks a) 0

  -- ---- how long each list is

  pub record NumberRoom (values' diag d column : List Float) (inverse places : List ℕ) : Type 0 where
    pub of_values : length values' ≡ numbers
    pub of_diag : length diag ≡ units_need a.dims
    pub of_d : length d ≡ scalar_count a.dims
    pub of_column : length column ≡ work_need a.dims
    pub of_inverse : length inverse ≡ blocks a
    pub of_places : length places ≡ blocks a
