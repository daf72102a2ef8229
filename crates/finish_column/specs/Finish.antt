-- How flat lists hold the finished columns, and the end of a column on them. Assumes nothing.
use Rattle.std.specs.Prelude.{◌≡◌, ℕ, suc, ◌<◌, List, [], ◌∷◌, ◌++◌, length, get_or, slice_index_or}
use Rattle.std.specs.Prelude.{Float, Result, Ok, Err}
use Rattle.graph.specs.Sets.{filter, between}
use Rattle.refusal.specs.Refusal.{pivot_not_finite, poorly_conditioned}
use Rattle.dense_pivots.specs.declared.LdltResult.{LdltResult}
use Rattle.block_diag_ldlt.specs.declared.cores.BlockError.{BlockError}
use Rattle.block_diag_ldlt.specs.declared.cores.BlockError.TheVariants.{NotFinite, Poor}
use Rattle.tables.specs.Verdict.{at}
use Rattle.order.specs.Order.{sizes_of}
use Rattle.machine.specs.System.{System, blocks, order}
use Rattle.machine.specs.Machine.{State, Column, no_column, touched, made, refused, finish}
use Rattle.block_product.specs.Working.{Shows}
use Rattle.column_products.specs.Columns.{Holds}
use Rattle.layout.specs.Layout.{Tables, side, start_of, stop_of, rows_at, on_at, plan_at}
use Rattle.lists.specs.declared.Numbers.{Numbers}

-- each list of the numbers is still the one that was lent, and as long
pub record SameNumbers (f g : Numbers) : Type 0 where
  pub l_values : (g.l_values.ghost_name ≡ f.l_values.ghost_name) × (length g.l_values.now ≡ length f.l_values.now)
  pub diag : (g.diag.ghost_name ≡ f.diag.ghost_name) × (length g.diag.now ≡ length f.diag.now)
  pub d : (g.d.ghost_name ≡ f.d.ghost_name) × (length g.d.now ≡ length f.d.now)
  pub cache : (g.cache.ghost_name ≡ f.cache.ghost_name) × (length g.cache.now ≡ length f.cache.now)

module _ (t : Tables) (unit_starts d_starts : List ℕ) where
  -- Every column of a list is held: its rows are those of the row table, and the flat lists hold their bodies, its unit factor and d.
  pub record HoldsAll (values diag d : List Float) (cols : List Column) : Type 0 where
    pub column : (k : ℕ) → k < length cols → Holds (plan_at t unit_starts d_starts []) values diag d k (start_of t k) (stop_of t k) (slice_index_or cols k no_column)
    pub rows : (k : ℕ) → k < length cols → (get_or cols k no_column).rows ≡ rows_at t k

  -- How column j ended on the flat lists is how it ends on the machine, whose state s has its products done.
  abbrev pub Ended : System → ℕ → State → Result LdltResult BlockError × List Float × List Float × List Float → Type 0
  Ended a j s (Ok r, values, diag, d) = (col : Column) × (finish a j s ≡ made col) × HoldsAll values diag d (s.finished ++ (col ∷ []))
  Ended a j s (Err (NotFinite place pivot), values, diag, d) = finish a j s ≡ refused (pivot_not_finite j place pivot)
  Ended a j s (Err (Poor condition), values, diag, d) = finish a j s ≡ refused (poorly_conditioned j condition)

  -- ---- what is promised

  -- Before the end of column j: the flat lists hold the machine's finished columns and show its working column, whose touched rows are the table's.
  pub record Before (a : System) (tol : Float) (j count : ℕ) (places : List ℕ) (c values diag d : List Float) (s : State) : Type 0 where
    pub by_sizes : t.sizes ≡ sizes_of a.dims (order a)
    pub by_tol : a.tol ≡ tol
    pub so_far : length s.finished ≡ j
    pub held : HoldsAll values diag d s.finished
    pub shown : Shows (side t) (at places) (on_at t j) j c count s
    pub rows : filter (λ i. touched (s.work i)) (between (suc j) (blocks a)) ≡ rows_at t j

  -- Then the answer and the lists after it are the machine's end of the column, for every system and state.
  abbrev pub Finishes : (tol : Float) (j : ℕ) (places : List ℕ) (c values diag d : List Float) → Result LdltResult BlockError × List Float × List Float × List Float → Type 0
  Finishes tol j places c values diag d r = (a : System) (count : ℕ) (s : State) → Before a tol j count places c values diag d s → Ended a j s r
