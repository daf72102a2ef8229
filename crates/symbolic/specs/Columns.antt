-- The plan of L from an upper pattern: what the passes need, and what they leave. Assumes nothing.
use Rattle.std.specs.Prelude.{◌≡◌, ℕ, ◌*◌, ◌<◌, ◌≤◌, Bool, List, length, slice_index}
use Rattle.graph.specs.Sets.{between, sum}
use Rattle.graph.specs.Symbolic.{reach, columns, rows}
use Rattle.graph.specs.Liu.{tree_parent}
use Rattle.elimination_tree.specs.Tree.{Pattern, Ascends, linked_up, parents_of}

-- n blocks, their upper pattern, and Liu's table of parents
pub record Tree (n : ℕ) (starts rows parent : List ℕ) : Type 0 where
  pub pattern : Pattern n starts rows
  pub ascends : Ascends n starts rows
  pub liu : parent ≡ parents_of (linked_up starts rows) n

-- no stamp is above m: the next mark, m + 1, is new
unfoldable pub Below : ℕ → List ℕ → Type 0
Below m stamps = (i : ℕ) → i < length stamps → slice_index stamps i ≤ m

-- the columns that reach column j, last found first
abbrev pub found : List ℕ → List ℕ → ℕ → ℕ → List ℕ
found starts rows n j = reach (linked_up starts rows) n (tree_parent (linked_up starts rows) n) j

-- the columns of L: their rows below the diagonal
abbrev pub columns_of : List ℕ → List ℕ → ℕ → List (List ℕ)
columns_of starts rows n = columns (linked_up starts rows) n n

-- ---- the numbers of L

-- the dimensions of n blocks
pub record Sized (n : ℕ) (sizes : List ℕ) : Type 0 where
  pub count : length sizes ≡ n
  pub small : (k : ℕ) → slice_index sizes k ≤ 16

-- the numbers of block (i, k)
abbrev pub area : (sizes : List ℕ) → (i k : ℕ) → ℕ
area sizes i k = slice_index sizes i * slice_index sizes k

-- the numbers of L: of every block that it stores
abbrev pub numbers_of : (linked : ℕ → ℕ → Bool) → (n : ℕ) → (sizes : List ℕ) → ℕ
numbers_of linked n sizes = sum (between 0 n) (λ k. sum (rows linked n k) (λ i. area sizes i k))
