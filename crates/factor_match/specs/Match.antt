-- A factor's tables against the system that it is called with: "every column has the rows of the path rule", "the parents are the
-- elimination tree", "otherwise the first column that is wrong, and whether a row is missing, one too many, or the parent is off,
-- tested in that order". The rows of the path rule are `rows` of crate graph, by its theorem. Assumes nothing.
use Rattle.std.specs.Prelude.{ℕ, Bool, true, cond, not, ◌||◌, List, length, ◌==◌, nat_lt, Result, Ok, Err, Option, Some, None}
use Rattle.graph.specs.Sets.{elem, any}
use Rattle.graph.specs.Links.{rows_in, linked_in}
use Rattle.graph.specs.Symbolic.{rows}
use Rattle.graph.specs.Liu.{tree_parent}
use Rattle.tables.specs.Search.{first}
use Rattle.tables.specs.Verdict.{at}
use Rattle.elimination_tree.specs.Tree.{code}
use Rattle.factor_match.specs.declared.cores.ColumnError.{ColumnError}
use Rattle.factor_match.specs.declared.cores.ColumnError.TheVariants as kind

-- a column comes before another, where there is another
abbrev pub before : ℕ → Option ℕ → Bool
before k (Some o) = nat_lt k o
before k None = true

-- some row of the first list is not in the second
unfoldable pub lacks : (wanted listed : List ℕ) → Bool
lacks wanted listed = any (λ i. not (elem i listed)) wanted

-- n blocks with these links; the parents and the columns that are tested
module _ (linked : ℕ → ℕ → Bool) (n : ℕ) (parents : List ℕ) (listed : ℕ → List ℕ) where
  -- a row of the path rule is missing in column k
  abbrev pub missing : ℕ → Bool
  missing k = lacks (rows linked n k) (listed k)

  -- a row is one too many
  abbrev pub extra : ℕ → Bool
  extra k = lacks (listed k) (rows linked n k)

  -- the parent is off: it is not Liu's
  abbrev pub parent_off : ℕ → Bool
  parent_off k = not (at parents k == code (tree_parent linked n k))

  -- nothing is wrong with column k
  unfoldable pub column_right : ℕ → Bool
  column_right k = not (missing k || (extra k || parent_off k))

  -- what is wrong with column k
  unfoldable pub kind_at : ℕ → ColumnError
  kind_at k = cond (missing k) (kind.Missing k) (cond (extra k) (kind.Extra k) (kind.Parent k))

  -- every column is right, or the first that is wrong, and what is wrong with it
  unfoldable pub first_wrong : Result Unit ColumnError
  first_wrong = cond (nat_lt (first column_right 0 n) n) (Err (kind_at (first column_right 0 n))) (Ok tt)

-- a factor's tables under A's tables and the order of elimination
abbrev pub match_of : (starts rows order parents l_starts l_rows : List ℕ) → Result Unit ColumnError
match_of starts rows order parents l_starts l_rows = first_wrong (linked_in starts rows order) (length order) parents (rows_in l_starts l_rows)
