-- What a buffer that is lent holds: marks before a call, what the call wrote and marks after it. Assumes nothing.
use Rattle.std.specs.Prelude.{ℕ, ◌≤◌, ◌<◌, Bool, true, List, ◌≡◌, length, slice_get, Some}

-- each place from some place on holds its mark
abbrev pub Marked : {E : Type 0} → (ℕ → E) → ℕ → List E → Type 0
Marked marks from xs = (k : ℕ) → from ≤ k → k < length xs → slice_get xs k ≡ Some (marks k)

-- so many places are there, and hold x
abbrev pub Holds : {E : Type 0} → ℕ → E → List E → Type 0
Holds upto x xs = (upto ≤ length xs) × ((k : ℕ) → k < upto → slice_get xs k ≡ Some x)

-- a fact of each of a list
abbrev pub Each : {A : Type 0} → List A → (A → Type 0) → Type 0
Each xs fact = (k : ℕ) (x : _) → slice_get xs k ≡ Some x → fact x

-- what a test of a fact tells
pub record Tells (fact : Type 0) (r : Bool) : Type 0 where
  pub only : r ≡ true → fact
  pub also : fact → r ≡ true
