-- What tables that pass say at every place, for whoever works with them. proofs/Sound.antt shows each from its verdict.
-- Assumes nothing.
use Rattle.std.specs.Prelude.{◌≡◌, ℕ, ◌+◌, ◌-◌, ◌*◌, ◌<◌, ◌≤◌, Bool, true, false, T, ◌⊎◌, List, length}
use Rattle.std.specs.Prelude.{Float}
use Rattle.graph.specs.Sets.{elem, Inc}
use Rattle.graph.specs.Links.{rows_in}
use Rattle.graph.specs.Order.{Permutes}
use Rattle.scalar.specs.Scalar.{is_tolerance}
use Rattle.tables.specs.Verdict.{at, areas, from_diagonal, past_diagonal, any_row}

-- 2 passed. Past its end a table reads 0, so no entry is above 16, wherever it is read
pub record Sizes (dims : List ℕ) : Type 0 where
  pub positive : (k : ℕ) → k < length dims → 1 ≤ at dims k
  pub small : (k : ℕ) → at dims k ≤ 16

-- 3 passed: the starts of n columns over m rows
pub record Ordered (starts : List ℕ) (n m : ℕ) : Type 0 where
  pub entries : length starts ≡ n + 1
  pub begins : at starts 0 ≡ 0
  pub rising : (j : ℕ) → j < n → at starts j ≤ at starts (j + 1)
  pub ends : at starts n ≡ m
  pub inside : (j : ℕ) → j ≤ n → at starts j ≤ m

-- 3, 5 and 6 passed: the columns of n blocks, whose rows begin at the least that `least` gives
pub record Columns (least : ℕ → ℕ) (n : ℕ) (starts rows : List ℕ) : Type 0 where
  pub ordered : Ordered starts n (length rows)
  -- each row of column j is in range, by its place and as a member
  pub ranged : (j p : ℕ) → j < n → at starts j ≤ p → p < at starts (j + 1) → (least j ≤ at rows p) × (at rows p < n)
  pub members : (j row : ℕ) → j < n → T (elem row (rows_in starts rows j)) → (least j ≤ row) × (row < n)
  -- they increase strictly, by their places and as a list
  pub rises : (j p q : ℕ) → j < n → at starts j ≤ p → p < q → q < at starts (j + 1) → at rows p < at rows q
  pub increasing : (j : ℕ) → j < n → Inc (rows_in starts rows j)
  -- so column j has no more than the rows of its range
  pub short : (j : ℕ) → j < n → at starts (j + 1) - at starts j ≤ n - least j
  -- every row is a block
  pub below : (p : ℕ) → p < length rows → at rows p < n

-- what the sum of areas reads
pub record Measured (dims starts rows : List ℕ) : Type 0 where
  pub sizes : Sizes dims
  pub ordered : Ordered starts (length dims) (length rows)
  pub below : (p : ℕ) → p < length rows → at rows p < length dims
  pub few : length rows ≤ 16777216

-- a mark: 1 for true, 0 for false
abbrev pub flag : Bool → ℕ
flag true = 1
flag false = 0

-- a mark for each number below 4,096, of those that are among xs
pub record Marked (seen xs : List ℕ) : Type 0 where
  pub long : length seen ≡ 4096
  pub marks : (v : ℕ) → v < 4096 → at seen v ≡ flag (elem v xs)

-- ---- all passed

-- what a plan is made from: A's tables without its values, the permutation and the late flags
pub record PlanSound (dims starts rows perm late : List ℕ) : Type 0 where
  pub blocks : length dims ≤ 4096
  pub sizes : Sizes dims
  pub stored : length rows ≤ 65536
  pub columns : Columns from_diagonal (length dims) starts rows
  pub permutes : Permutes (length dims) perm
  pub flags : length late ≡ length dims
  pub flagged : (k : ℕ) → k < length dims → at late k ≤ 1

-- the same with A's values and the tolerance
pub record SystemSound (dims starts rows : List ℕ) (values : List Float) (perm late : List ℕ) (tol : Float) : Type 0 where
  pub plan : PlanSound dims starts rows perm late
  pub counted : length values ≡ areas dims starts rows
  pub tolerance : is_tolerance tol ≡ true

-- a factor's tables
pub record FactorSound (dims starts rows : List ℕ) (values : List Float) : Type 0 where
  pub blocks : length dims ≤ 4096
  pub sizes : Sizes dims
  pub columns : Columns past_diagonal (length dims) starts rows
  -- at most n(n - 1)/2 blocks, and so at most 8,386,560
  pub half : 2 * length rows + length dims ≤ length dims * length dims
  pub stored : length rows ≤ 8386560
  pub counted : length values ≡ areas dims starts rows

-- an upper pattern of n blocks
pub record UpperSound (n : ℕ) (starts rows : List ℕ) : Type 0 where
  pub blocks : n ≤ 4096
  pub columns : Columns any_row n starts rows

-- an upper pattern with the parents of its blocks
pub record TreeSound (starts rows above : List ℕ) : Type 0 where
  pub blocks : length above ≤ 4096
  pub columns : Columns any_row (length above) starts rows
  pub parents : (k : ℕ) → k < length above → (at above k ≡ 4294967295) ⊎ ((k < at above k) × (at above k < length above))
