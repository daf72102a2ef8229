-- The order of elimination: its two groups, its inverse, and the dimensions under it. The late move itself is `moved` of crate graph.
-- Assumes nothing.
use Rattle.std.specs.Prelude.{◌≡◌, ℕ, ◌<◌, Bool, true, false, not, List, map, length, slice_index}
use Rattle.graph.specs.Sets.{filter}
use Rattle.graph.specs.Order.{is_late}

-- is a block one of the flagged, or one of the others?
abbrev pub in_group : Bool → List ℕ → ℕ → Bool
in_group true late block = is_late late block
in_group false late block = not (is_late late block)

-- the blocks of a group, in the order of perm
unfoldable pub group : (flagged : Bool) → (late perm : List ℕ) → List ℕ
group flagged late perm = filter (in_group flagged late) perm

-- perm: the old number of each new one; inv: back
pub record Inverse (n : ℕ) (perm inv : List ℕ) : Type 0 where
  pub count : length inv ≡ n
  pub there : (k : ℕ) → k < n → (slice_index perm k < n) × (slice_index inv (slice_index perm k) ≡ k)
  pub back : (o : ℕ) → o < n → (slice_index inv o < n) × (slice_index perm (slice_index inv o) ≡ o)

-- the dimension of each new block
unfoldable pub sizes_of : (dims order : List ℕ) → List ℕ
sizes_of dims order = map {A = ℕ} {B = ℕ} (λ old. slice_index dims old) order
