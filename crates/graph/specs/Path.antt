-- The path rule. Assumes nothing.
use Rattle.std.specs.Prelude.{ℕ, ◌<◌, Bool, T}

-- a path of links from i to j that goes through blocks below k alone, perhaps none
pub data Path (linked : ℕ → ℕ → Bool) (k : ℕ) : ℕ → ℕ → Type 0 where
  link : {i j : ℕ} → T (linked i j) → Path linked k i j
  through : {i m j : ℕ} → T (linked i m) → m < k → Path linked k m j → Path linked k i j

-- row i is stored in column k of L: i is past k, and a path joins i to k through blocks below k
abbrev pub Stored : (ℕ → ℕ → Bool) → ℕ → ℕ → Type 0
Stored linked k i = (k < i) × Path linked k i k
