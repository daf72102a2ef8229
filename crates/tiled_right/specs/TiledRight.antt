-- The solve from the right in tiles of rows. A row is solved by itself, and an entry's bits depend on its own sequence of roundings alone, so
-- the entries of a column may be worked several rows at a time. Assumes nothing.
use Rattle.std.specs.Prelude.{◌≡◌, ℕ, ◌+◌, ◌<◌, ◌≤◌, List, length}
use Rattle.std.specs.Prelude.{Float}
use Rattle.scalar.specs.Loop.{steps}
use Rattle.scalar.specs.Block.{at, lose}

-- `count` rows of x' from `low` on are those of w, n columns in all, and the rows above them are those of x; of the rows below nothing is said
pub record RowsSolved (m n : ℕ) (w : List Float) (low count : ℕ) (x x' : List Float) : Type 0 where
  pub long : length x' ≡ length x
  pub done : (r c : ℕ) → low ≤ r → r < low + count → c < n → at x' m r c ≡ at w m r c
  pub above : (r c : ℕ) → r < low → c < n → at x' m r c ≡ at x m r c

-- ---- what an entry loses

-- s, of row r, loses x(r, c v) * b v for v = 0, .., count - 1
abbrev pub lost : (m : ℕ) → (x : List Float) → (r : ℕ) → (c : ℕ → ℕ) → (b : ℕ → Float) → (count : ℕ) → Float → Float
lost m x r c b = steps (λ v s. lose s (at x m r (c v)) (b v))
