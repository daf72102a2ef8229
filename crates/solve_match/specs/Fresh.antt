-- A factor that is not stale, in the words of the plan: its tables are those that the system's own plan has, and each list has its length.
-- proofs/Fresh.antt shows that 12 passes exactly these. Assumes nothing.
use Rattle.std.specs.Prelude.{◌≡◌, ℕ, List, length}
use Rattle.graph.specs.Links.{linked_of}
use Rattle.graph.specs.Order.{moved}
use Rattle.elimination_tree.specs.Tree.{parents_of}
use Rattle.order.specs.Order.{sizes_of}
use Rattle.analysis.specs.Plan.{starts_of, rows_of}
use Rattle.scalars.specs.Scalars.{scalar_count}
use Rattle.scalars.specs.Bodies.{offsets}
use Rattle.layout.specs.Layout.{units_need}

pub record Fresh (dims starts rows perm late order parents l_starts l_rows l_offsets : List ℕ) (diag d x : ℕ) : Type 0 where
  -- the permutation after the late move
  pub of_order : order ≡ moved perm late
  -- the elimination tree of A's links under it
  pub of_parents : parents ≡ parents_of (linked_of starts rows perm late) (length dims)
  -- L's columns, and where their bodies begin
  pub of_l_starts : l_starts ≡ starts_of (linked_of starts rows perm late) (length dims)
  pub of_l_rows : l_rows ≡ rows_of (linked_of starts rows perm late) (length dims)
  pub of_l_offsets : l_offsets ≡ offsets (sizes_of dims (moved perm late)) l_starts l_rows
  -- a number for each entry of the unit factors, and for each scalar
  pub of_diag : diag ≡ units_need dims
  pub of_d : d ≡ scalar_count dims
  pub of_x : x ≡ scalar_count dims
