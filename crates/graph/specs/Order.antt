-- The order of elimination: the planner's permutation with the late blocks moved behind the others. Assumes nothing.
use Rattle.std.specs.Prelude.{ℕ, ◌<◌, Bool, not, List, ◌++◌, ◌≡◌, T, eqb, length, get_or}
use Rattle.graph.specs.Sets.{elem, filter, Uniq}

-- the late flag of a block, by old number, is not 0
abbrev pub is_late : List ℕ → ℕ → Bool
is_late late block = not (eqb (get_or late block 0) 0)

-- the unflagged blocks, then the flagged ones, each group in the order of perm: all that reads the flags
unfoldable pub moved : (perm late : List ℕ) → List ℕ
moved perm late = filter (λ block. not (is_late late block)) perm ++ filter (is_late late) perm

-- a permutation of n blocks: n entries, each below n, none twice
pub record Permutes (n : ℕ) (perm : List ℕ) : Type 0 where
  pub entries : length perm ≡ n
  pub below : (block : ℕ) → T (elem block perm) → block < n
  pub once : Uniq perm
