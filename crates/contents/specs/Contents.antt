-- The contents of a sheet as tables, from document 01, "The sheet and the program `fit`": entries by column then row, bodies back
-- to back in that order. Assumes nothing.
use Rattle.std.specs.Prelude.{◌≡◌, ℕ, ◌+◌, ◌-◌, ◌*◌, ◌<◌, ◌≤◌, Bool, ◌&&◌, ◌||◌, List, map, length, ◌==◌, nat_le, nat_lt}
use Rattle.graph.specs.Sets.{from}
use Rattle.refusal.specs.Refusal.{Told, bad_starts, bad_sheet}
use Rattle.tables.specs.Search.{first}
use Rattle.tables.specs.Verdict.{at, fault_in}
use Rattle.tables.specs.Sound.{Sizes}
use Rattle.scalars.specs.Bodies.{offset_at}

-- ---- 3: the columns of the entries

-- the column of entry p is below n, and does not fall: it is not below the one before
unfoldable pub column_fits : (columns : List ℕ) → (n p : ℕ) → Bool
column_fits columns n p = nat_lt (at columns p) n && (p == 0 || nat_le (at columns (p - 1)) (at columns p))

-- each column does
unfoldable pub columns_check : (columns : List ℕ) → (n : ℕ) → Told
columns_check columns n = fault_in (column_fits columns n) (length columns) bad_starts

-- ---- where each column begins

-- is the column of entry p before j?
abbrev pub before : (columns : List ℕ) → (j p : ℕ) → Bool
before columns j p = nat_lt (at columns p) j

-- column j begins at the first entry whose column is j or more; behind the last entry where there is none
unfoldable pub start_at : (columns : List ℕ) → (j : ℕ) → ℕ
start_at columns j = first (before columns j) 0 (length columns)

-- of n columns, and behind the last the number of entries
unfoldable pub starts_from : (columns : List ℕ) → (n : ℕ) → List ℕ
starts_from columns n = map {A = ℕ} {B = ℕ} (start_at columns) (from 0 (n + 1))

-- ---- 15: where the bodies lie

-- the offset of entry p: the numbers of the bodies before its own, eight bytes each, from where the bodies begin
unfoldable pub offset_fits : (dims rows columns offsets : List ℕ) → (bodies p : ℕ) → Bool
offset_fits dims rows columns offsets bodies p = at offsets p == bodies + 8 * offset_at dims (starts_from columns (length dims)) rows p

-- each offset is
unfoldable pub offsets_check : (dims rows columns offsets : List ℕ) → (bodies : ℕ) → Told
offsets_check dims rows columns offsets bodies = fault_in (offset_fits dims rows columns offsets bodies) (length offsets) (λ p. bad_sheet)

-- ---- what passed tables say

-- 3 passed
pub record Sorted (columns : List ℕ) (n : ℕ) : Type 0 where
  pub below : (p : ℕ) → p < length columns → at columns p < n
  pub rising : (p q : ℕ) → p ≤ q → q < length columns → at columns p ≤ at columns q

-- what the search of the offsets reads
pub record Placed (dims rows columns offsets : List ℕ) : Type 0 where
  pub sizes : Sizes dims
  pub sorted : Sorted columns (length dims)
  pub below : (p : ℕ) → p < length rows → at rows p < length dims
  pub as_rows : length rows ≡ length columns
  pub as_offsets : length offsets ≡ length columns
  pub few : length columns ≤ 16777216
