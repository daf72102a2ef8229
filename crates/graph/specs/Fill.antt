-- The fill rule of elimination (Rose, Tarjan and Lueker), which says the path rule step by step. Assumes nothing.
use Rattle.std.specs.Prelude.{ℕ, ◌≤◌, ◌<◌, Bool, T}
use Rattle.std.proofs.Math.Option.{Option, none, some}

-- the entry (i, j), j the column, is a link, or a column k < j that holds both rows i and j makes it
pub data Fill (linked : ℕ → ℕ → Bool) : ℕ → ℕ → Type 0 where
  here : {i j : ℕ} → T (linked i j) → Fill linked i j
  made : {i j k : ℕ} → k < j → Fill linked j k → Fill linked i k → Fill linked i j

-- o is the least row past the diagonal that the fill rule gives column k, of n blocks; none where it gives none
abbrev pub Least : (ℕ → ℕ → Bool) → ℕ → ℕ → Option ℕ → Type 0
Least linked n k none = (i : ℕ) → k < i → i < n → Fill linked i k → ⊥
Least linked n k (some p) = (k < p) × (p < n) × Fill linked p k × ((i : ℕ) → k < i → i < n → Fill linked i k → p ≤ i)
