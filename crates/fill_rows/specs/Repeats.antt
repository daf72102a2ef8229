-- Columns of L that repeat their parents': in a flat table, with the places where each column begins. Assumes nothing.
use Rattle.std.specs.Prelude.{◌≡◌, ℕ, ◌+◌, ◌-◌, ◌<◌, ◌≤◌, Bool, true, false, cond, not, ◌&&◌, List, length, ◌==◌, ◌≢◌, slice_index}
use Rattle.reach.specs.Reach.{none}

-- where each of n columns begins, and the last one ends
pub record Rising (n : ℕ) (heads : List ℕ) : Type 0 where
  pub count : length heads ≡ n + 1
  pub rising : (k : ℕ) → k < n → slice_index heads k ≤ slice_index heads (k + 1)

-- how many rows column k has
abbrev pub rows_in : List ℕ → ℕ → ℕ
rows_in heads k = slice_index heads (k + 1) - slice_index heads k

-- column k has one row more than its parent's
abbrev pub repeats : (parent heads : List ℕ) → ℕ → Bool
repeats parent heads k = not (slice_index parent k == none) && rows_in heads k == rows_in heads (slice_index parent k) + 1

-- ---- the climbs pass such columns by

-- the first column from k up that repeats none, where `onward` has it for each parent
abbrev pub top_of : (parent heads onward : List ℕ) → ℕ → ℕ
top_of parent heads onward k = cond (repeats parent heads k) (slice_index onward k) k

-- where a climb goes on from each column: none at a root, else at the top of its parent
pub record Onward (parent heads onward : List ℕ) : Type 0 where
  pub places : length onward ≡ length parent
  pub roots : (k : ℕ) → k < length parent → slice_index parent k ≡ none → slice_index onward k ≡ none
  pub above : (k : ℕ) → k < length parent → (slice_index parent k ≢ none) → slice_index onward k ≡ top_of parent heads onward (slice_index parent k)

-- ---- and are copied

-- the table after the copies, from the one before: the columns that repeat none as they were, each other one its parent and the parent's column
pub record Copied (parent heads before after : List ℕ) : Type 0 where
  pub kept : (k : ℕ) → k < length parent → repeats parent heads k ≡ false → (t : ℕ) → t < rows_in heads k → slice_index after (slice_index heads k + t) ≡ slice_index before (slice_index heads k + t)
  pub first : (k : ℕ) → k < length parent → repeats parent heads k ≡ true → slice_index after (slice_index heads k) ≡ slice_index parent k
  pub rest : (k : ℕ) → k < length parent → repeats parent heads k ≡ true → (t : ℕ) → t < rows_in heads (slice_index parent k)
      → slice_index after (slice_index heads k + 1 + t) ≡ slice_index after (slice_index heads (slice_index parent k) + t)
