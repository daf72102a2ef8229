-- Y - A Bᵀ by entries, and how tiles of three columns write them. An entry's bits depend on its own sequence of roundings alone, t ascending,
-- so the loops may be in any order. Assumes nothing.
use Rattle.std.specs.Prelude.{◌≡◌, ℕ, ◌+◌, ◌<◌, ◌≤◌, List, length, ◌≢◌, slice_index_or}
use Rattle.std.specs.Prelude.{Float}
use Rattle.std.specs.Float.{nan}
use Rattle.scalar.specs.Loop.{steps}
use Rattle.scalar.specs.Block.{at, put, lose}
use Rattle.kernel_diag_right.specs.DiagRight.{columns_scaled}

-- B diag(d), B of n rows and k columns: column t is multiplied by d(t)
unfoldable pub times_diag : ℕ → ℕ → List Float → List Float → List Float
times_diag n k d b = columns_scaled n k (λ t. slice_index_or d t nan) b

-- ---- entries e written into a list that holds m rows

-- `count` rows of column j, from row `low` on
abbrev pub column_by : (m : ℕ) → (e : ℕ → ℕ → Float) → (j low count : ℕ) → List Float → List Float
column_by m e j low count = steps (λ q x. put x m (low + q) j (e (low + q) j)) count

-- those of the columns j0, j1 and j2, which need not differ
unfoldable pub tiled_by : (m : ℕ) → (e : ℕ → ℕ → Float) → (j0 j1 j2 low count : ℕ) → List Float → List Float
tiled_by m e j0 j1 j2 low count y = column_by m e j2 low count (column_by m e j1 low count (column_by m e j0 low count y))

-- y' is y with the first `rows` rows of these columns written, n columns in all
pub record Stripped (m n : ℕ) (e : ℕ → ℕ → Float) (j0 j1 j2 rows : ℕ) (y y' : List Float) : Type 0 where
  pub long : length y' ≡ length y
  pub done : (r c : ℕ) → r < rows → r < m → c < n → ((c ≢ j0) → (c ≢ j1) → c ≡ j2) → at y' m r c ≡ e r c
  pub rest : (r c : ℕ) → r < m → c < n → (r < rows → (c ≢ j0) × (c ≢ j1) × (c ≢ j2)) → at y' m r c ≡ at y m r c

-- ---- Y of m rows and n columns, A of m rows and k columns, B of n rows and k columns

-- what is taken from y(i, j) at t
abbrev pub lose_at : (m n : ℕ) → (a b : List Float) → (i j t : ℕ) → Float → Float
lose_at m n a b i j t s = lose s (at a m i t) (at b n j t)

-- the entry (i, j) of Y - A Bᵀ
abbrev pub lost_entry : (m n k : ℕ) → (y a b : List Float) → (i j : ℕ) → Float
lost_entry m n k y a b i j = steps (lose_at m n a b i j) k (at y m i j)

-- Y - A Bᵀ, column by column
unfoldable pub sub_mat_mat_t : (m n k : ℕ) → (y a b : List Float) → List Float
sub_mat_mat_t m n k y a b = steps (λ j. steps (λ i x. put x m i j (lost_entry m n k y a b i j)) m) n y

-- the column that stands for the one `step` after j of n: itself, or the last
pub record Stands (n j step c : ℕ) : Type 0 where
  pub in_range : c < n
  pub from : j ≤ c
  pub near : c ≤ j + step
  pub there : j + step < n → c ≡ j + step

-- the column from which three more are worked, after those from j on
pub record Onward (n j next : ℕ) : Type 0 where
  pub after : j < next
  pub near : next ≤ j + 3
  pub there : next < n → next ≡ j + 3

-- ---- some entries of a column, held in locals

-- the first n of s are those of e
abbrev pub Holds : (n : ℕ) → (e : ℕ → Float) → List Float → Type 0
Holds n e s = (q : ℕ) → q < n → slice_index_or s q nan ≡ e q

-- y with n of s in column j, from row i on: neighbours are stored one after the other
abbrev pub put_down : (m j i n : ℕ) → (s : List Float) → List Float → List Float
put_down m j i n s = steps (λ q x. put x m (i + q) j (slice_index_or s q nan)) n

-- ---- a product of two blocks by its entries

-- how many rows and columns it has, and turns; where an entry starts from, what its row and its column meet at a turn, and what becomes of it
pub record Formula : Type 0 where
  pub rows : ℕ
  pub columns : ℕ
  pub turns : ℕ
  pub first : (r c : ℕ) → Float → Float
  pub left : (r t : ℕ) → Float
  pub right : (c t : ℕ) → Float
  pub turn : (s a b : Float) → Float

-- the entry (r, c) after t turns, where x stood there
abbrev pub after_turns : Formula → (t r c : ℕ) → Float → Float
after_turns f t r c x = steps (λ t s. f.turn s (f.left r t) (f.right c t)) t (f.first r c x)

-- and after all
abbrev pub worked : Formula → (r c : ℕ) → Float → Float
worked f = after_turns f f.turns

-- that entry where y stood there, of m rows
abbrev pub worked_on : Formula → (m : ℕ) → (y : List Float) → (r c : ℕ) → Float
worked_on f m y r c = worked f r c (at y m r c)

-- each entry x of y becomes g r c x, column by column
abbrev pub each_entry : (m n : ℕ) → (g : (r c : ℕ) → Float → Float) → List Float → List Float
each_entry m n g y = steps (λ c. steps (λ r x. put x m r c (g r c (at y m r c))) m) n y
