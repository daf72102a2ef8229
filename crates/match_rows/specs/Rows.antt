-- What a column of a factor is given: its linked rows, and the rows of each column whose first row it is. Assumes nothing.
use Rattle.std.specs.Prelude.{◌≡◌, ℕ, zero, suc, ◌+◌, ◌<◌, ◌≤◌, min, max, Bool, false, cond, not, ◌&&◌, ◌||◌, T, List, [], ◌∷◌, length, ◌==◌, nat_le, nat_lt, slice_set, Option, Some, None}
use Rattle.graph.specs.Sets.{elem, keep, gather}
use Rattle.graph.specs.Links.{rows_in, linked_in}
use Rattle.graph.specs.Symbolic as symbolic
use Rattle.tables.specs.Search.{first}
use Rattle.graph.specs.Order.{Permutes}
use Rattle.tables.specs.Verdict.{at, from_diagonal, past_diagonal}
use Rattle.tables.specs.Sound.{Columns}
use Rattle.elimination_tree.specs.Tree.{code}

-- what is held side by side: A's columns under an order of elimination of 4096 blocks at most, and a factor's, by new number
pub record Compared (starts rows order l_starts l_rows : List ℕ) : Type 0 where
  pub few : length order ≤ 4096
  pub columns : Columns from_diagonal (length order) starts rows
  pub permutes : Permutes (length order) order
  pub l_columns : Columns past_diagonal (length order) l_starts l_rows

-- is k the first row of a column?
abbrev pub heads : List ℕ → ℕ → Bool
heads [] k = false
heads (x ∷ l) k = x == k

module _ (listed : ℕ → List ℕ) where
  -- the columns below b whose first row is k, the last first
  unfoldable pub children : (k b : ℕ) → List ℕ
  children k zero = []
  children k (suc c) = keep (heads (listed c) k) c (children k c)

  -- one past the last column below b whose first row is k; 0 where there is none
  unfoldable pub latest : (k b : ℕ) → ℕ
  latest k zero = 0
  latest k (suc c) = cond (heads (listed c) k) (suc c) (latest k c)

  -- of n columns, those whose first row is k have row i
  unfoldable pub passed_on : (n i k : ℕ) → Bool
  passed_on n i k = elem i (gather listed (children k n))

  -- k where it is below `least` and column k does not list row i, else `least`
  unfoldable pub lowered : (i k least : ℕ) → ℕ
  lowered i k least = cond (nat_lt k least && not (elem i (listed k))) k least

-- row i is given to column k of a factor: by a child of k, or by a link under the order of elimination
unfoldable pub given_in : (starts rows order l_starts l_rows : List ℕ) → (i k : ℕ) → Bool
given_in starts rows order l_starts l_rows i k = passed_on (rows_in l_starts l_rows) (length order) i k || linked_in starts rows order i k

-- the parent of k is the first row that its column lists, or none
unfoldable pub headed : (parents : List ℕ) → (listed : ℕ → List ℕ) → (k : ℕ) → Bool
headed parents listed k = at parents k == code (symbolic.first (listed k))

-- r is the lowest of n columns that does not list a row past it that it is given; n where there is none
pub record Lowest (given : ℕ → ℕ → Bool) (listed : ℕ → List ℕ) (n r : ℕ) : Type 0 where
  pub within : r ≤ n
  pub before : (k i : ℕ) → k < r → k < i → i < n → T (given i k) → T (elem i (listed k))
  pub here : r < n → (i : ℕ) × (r < i) × (i < n) × T (given i r) × (T (elem i (listed r)) → ⊥)

-- o is the lowest of n columns that does not list a row past it that it is given, if there is one
abbrev pub LowestOf : (given : ℕ → ℕ → Bool) → (listed : ℕ → List ℕ) → (n : ℕ) → Option ℕ → Type 0
LowestOf given listed n (Some r) = (r < n) × Lowest given listed n r
LowestOf given listed n None = Lowest given listed n n

-- the same least column after A's stored block (row, column): its two new numbers are a pair, unless it is on the diagonal
unfoldable pub lowered_by : (inverse : List ℕ) → (listed : ℕ → List ℕ) → (row column least : ℕ) → ℕ
lowered_by inverse listed row column least =
    cond (row == column) least (lowered listed (max (at inverse row) (at inverse column)) (min (at inverse row) (at inverse column)) least)

-- v written at each of the places listed
unfoldable pub stamps : (v : ℕ) → (places seen : List ℕ) → List ℕ
stamps v [] seen = seen
stamps v (i ∷ l) seen = stamps v l (slice_set seen i v)

-- each row that column k lists is given to it
unfoldable pub column_given : (given : ℕ → ℕ → Bool) → (starts rows : List ℕ) → (k : ℕ) → Bool
column_given given starts rows k = nat_le (at starts (k + 1)) (first (λ u. given (at rows u) k) (at starts k) (at starts (k + 1)))

-- the child lists of n columns: head[k] is one past the last whose first row is k, sibling[c] one past the one before c that has the first row of c
pub record Families (listed : ℕ → List ℕ) (n : ℕ) (head sibling : List ℕ) : Type 0 where
  pub long : (length head ≡ 4096) × (length sibling ≡ 4096)
  pub heads_of : (k : ℕ) → k < 4096 → at head k ≡ latest listed k n
  pub siblings : (c k : ℕ) → c < n → T (heads (listed c) k) → at sibling c ≡ latest listed k c
