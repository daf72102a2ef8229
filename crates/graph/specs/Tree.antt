-- The elimination tree as Liu defines it, and reach as Davis does. Assumes nothing.
use Rattle.std.specs.Prelude.{ℕ, ◌≤◌, ◌<◌, Bool, ◌≡◌, T}
use Rattle.std.proofs.Math.Option.{Option, none, some}
use Rattle.graph.specs.Path.{Stored}

-- Liu: the parent of k, of n blocks, is the least row that the path rule stores in column k; none where it stores none
abbrev pub Parent : (ℕ → ℕ → Bool) → ℕ → ℕ → Option ℕ → Type 0
Parent linked n k none = (i : ℕ) → i < n → Stored linked k i → ⊥
Parent linked n k (some p) = (p < n) × Stored linked k p × ((i : ℕ) → i < n → Stored linked k i → p ≤ i)

-- the tree's path from i towards j: k is on it, and so is all before k, below j
pub data Towards (parent : ℕ → Option ℕ) (j : ℕ) : ℕ → ℕ → Type 0 where
  stands : {i : ℕ} → i < j → Towards parent j i i
  climbs : {i p k : ℕ} → i < j → parent i ≡ some p → Towards parent j p k → Towards parent j i k

-- Davis: k is in the reach of j where it stands on the path towards j from an entry i of upper column j
abbrev pub Reaches : (ℕ → ℕ → Bool) → (ℕ → Option ℕ) → ℕ → ℕ → Type 0
Reaches linked parent j k = (i : ℕ) × T (linked i j) × Towards parent j i k
