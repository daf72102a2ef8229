-- The verdicts on tables, from document 01, "The night's system" and "Who can cause a refusal", 1 to 10: accepted, or the
-- refusal with the lowest number, at its first place.
--
-- The document names no place where a table has the wrong length. Here a table that must have n entries has the places 0 to n, and
-- n stands for "and no more": so one that is too short is refused at its first missing entry, one that is too long at its
-- first entry too many, and either only where nothing before it is wrong.
-- Assumes nothing.
use Rattle.std.specs.Prelude.{ℕ, ◌+◌, ◌-◌, ◌*◌, Bool, cond, not, ◌&&◌, ◌||◌, leb, List, [], ◌∷◌, length, take, ◌==◌, nat_le, nat_lt, slice_index}
use Rattle.std.specs.Prelude.{Float}
use Rattle.graph.specs.Sets.{elem}
use Rattle.refusal.specs.Refusal.{Told, done, verdict, too_many_blocks, bad_dimension, bad_starts, too_many_stored, out_of_range, bad_parent, not_increasing, bad_value_count, bad_permutation, bad_late_flags}
use Rattle.refusal.specs.Check.{tolerance_check}
use Rattle.tables.specs.Search.{first, sum}

-- the entry k of a table, 0 past its end
abbrev pub at : List ℕ → ℕ → ℕ
at xs k = slice_index xs k

-- ---- one place of one table

-- 2: a dimension is 1 to 16
unfoldable pub dim_ok : (dims : List ℕ) → ℕ → Bool
dim_ok dims k = nat_le 1 (at dims k) && nat_le (at dims k) 16

-- 3: the first column start is 0, and no other is below the one before it
unfoldable pub rises_at : (starts : List ℕ) → ℕ → Bool
rises_at starts k = cond (k == 0) (at starts k == 0) (nat_le (at starts (k - 1)) (at starts k))

-- 3: the starts of n columns over m rows: n + 1 of them, rising from 0, the last m
unfoldable pub start_ok : (starts : List ℕ) → (n m : ℕ) → ℕ → Bool
start_ok starts n m k =
    cond (nat_le k n) (nat_lt k (length starts) && (rises_at starts k && (nat_lt k n || at starts k == m))) (nat_le (length starts) k)

-- the column of the place p of a row table: the first that ends past p
unfoldable pub column_of : (starts : List ℕ) → (n p : ℕ) → ℕ
column_of starts n p = first (λ j. leb (at starts (j + 1)) p) 0 n

-- 5: a row is `from` to n - 1
unfoldable pub row_ok : (rows : List ℕ) → (n from p : ℕ) → Bool
row_ok rows n from p = nat_le from (at rows p) && nat_lt (at rows p) n

-- 5: a row is in the range of its column, which begins at the least row that `least` gives
abbrev pub row_fits : (least : ℕ → ℕ) → (starts rows : List ℕ) → (n p : ℕ) → Bool
row_fits least starts rows n p = row_ok rows n (least (column_of starts n p)) p

-- 6: a row is the first of its column, which starts at lo, or above the one before
unfoldable pub order_ok : (rows : List ℕ) → (lo p : ℕ) → Bool
order_ok rows lo p = nat_le p lo || nat_lt (at rows (p - 1)) (at rows p)

-- 6: the same, where the column starts
abbrev pub order_fits : (starts rows : List ℕ) → (n p : ℕ) → Bool
order_fits starts rows n p = order_ok rows (at starts (column_of starts n p)) p

-- 7: the area of the block at place p, in a column that is d wide
unfoldable pub block_area : (dims rows : List ℕ) → (d p : ℕ) → ℕ
block_area dims rows d p = at dims (at rows p) * d

-- 7: the same, as wide as its column is
abbrev pub area_at : (dims starts rows : List ℕ) → ℕ → ℕ
area_at dims starts rows p = block_area dims rows (at dims (column_of starts (length dims) p)) p

-- 7: the area of all stored blocks
abbrev pub areas : (dims starts rows : List ℕ) → ℕ
areas dims starts rows = sum (area_at dims starts rows) 0 (length rows)

-- 8: n entries, each below n, none the same as one before
unfoldable pub perm_ok : (perm : List ℕ) → (n : ℕ) → ℕ → Bool
perm_ok perm n k =
    cond (nat_lt k n) (nat_lt k (length perm) && nat_lt (at perm k) n && not (elem (at perm k) (take k perm))) (nat_le (length perm) k)

-- 9: n flags, each 0 or 1
unfoldable pub late_ok : (late : List ℕ) → (n : ℕ) → ℕ → Bool
late_ok late n k = cond (nat_lt k n) (nat_lt k (length late) && nat_le (at late k) 1) (nat_le (length late) k)

-- 5: a parent is none, which is 4,294,967,295, or a greater one of n blocks, whatever the count of the parents
unfoldable pub parent_fits : (n : ℕ) → (parents : List ℕ) → ℕ → Bool
parent_fits n parents k = at parents k == 4294967295 || nat_lt k (at parents k) && nat_lt (at parents k) n

-- 5: the same, of as many blocks as there are parents
abbrev pub parent_ok : (parents : List ℕ) → ℕ → Bool
parent_ok parents k = parent_fits (length parents) parents k

-- ---- the checks: each passes, or gives its refusal with the first place

-- the refusal of the first place below `end` at which a test fails
abbrev pub fault_in : (ℕ → Bool) → (end : ℕ) → (ℕ → Told) → Told
fault_in ok end refusal = cond (nat_lt (first ok 0 end) end) (refusal (first ok 0 end)) done

-- 1: at most 4,096 blocks
unfoldable pub blocks_check : ℕ → Told
blocks_check n = cond (nat_lt 4096 n) too_many_blocks done

-- 2: each dimension 1 to 16
unfoldable pub dims_check : (dims : List ℕ) → Told
dims_check dims = fault_in (dim_ok dims) (length dims) bad_dimension

-- 3: the starts of n columns over m rows; the place n + 1 stands for "and no more"
unfoldable pub starts_check : (starts : List ℕ) → (n m : ℕ) → Told
starts_check starts n m = fault_in (start_ok starts n m) (n + 2) bad_starts

-- 4: at most 65,536 stored blocks
unfoldable pub stored_check : ℕ → Told
stored_check m = cond (nat_lt 65536 m) too_many_stored done

-- 5: each row from the least of its column to the last block
unfoldable pub rows_check : (least : ℕ → ℕ) → (starts rows : List ℕ) → (n : ℕ) → Told
rows_check least starts rows n = fault_in (row_fits least starts rows n) (length rows) out_of_range

-- 5: each parent none or a greater block
unfoldable pub parents_check : (parents : List ℕ) → Told
parents_check parents = fault_in (parent_ok parents) (length parents) bad_parent

-- 6: the rows of a column strictly increasing
unfoldable pub order_check : (starts rows : List ℕ) → (n : ℕ) → Told
order_check starts rows n = fault_in (order_fits starts rows n) (length rows) not_increasing

-- 7: as many values as the areas sum up to
unfoldable pub values_check : (dims starts rows : List ℕ) → (count : ℕ) → Told
values_check dims starts rows count = cond (count == areas dims starts rows) done bad_value_count

-- 8: a permutation of n blocks
unfoldable pub perm_check : (perm : List ℕ) → (n : ℕ) → Told
perm_check perm n = fault_in (perm_ok perm n) (n + 1) bad_permutation

-- 9: n late flags
unfoldable pub late_check : (late : List ℕ) → (n : ℕ) → Told
late_check late n = fault_in (late_ok late n) (n + 1) bad_late_flags

-- ---- the verdicts: the checks of a call by number. 5 to 7 read the rows by the starts, so they come to speak only after 3

-- the least row of column j: of A, which stores rows j and beyond
abbrev pub from_diagonal : ℕ → ℕ
from_diagonal j = j

-- of a factor, which stores rows past j
abbrev pub past_diagonal : ℕ → ℕ
past_diagonal j = j + 1

-- of an upper pattern, where rows j and beyond are skipped and not refused
abbrev pub any_row : ℕ → ℕ
any_row j = 0

-- A's tables with the permutation, the late flags and the tolerance
abbrev pub system_checks : (dims starts rows : List ℕ) → (values : List Float) → (perm late : List ℕ) → (tol : Float) → List Told
system_checks dims starts rows values perm late tol =
    let n = length dims in
    let m = length rows in
    blocks_check n
    ∷ dims_check dims
    ∷ starts_check starts n m
    ∷ stored_check m
    ∷ rows_check from_diagonal starts rows n
    ∷ order_check starts rows n
    ∷ values_check dims starts rows (length values)
    ∷ perm_check perm n
    ∷ late_check late n
    ∷ tolerance_check tol
    ∷ []

-- the verdict of `check_system`
unfoldable pub system_verdict : (dims starts rows : List ℕ) → (values : List Float) → (perm late : List ℕ) → (tol : Float) → Told
system_verdict dims starts rows values perm late tol = verdict (system_checks dims starts rows values perm late tol)

-- what a plan is made from: the same without the values and the tolerance
abbrev pub plan_checks : (dims starts rows perm late : List ℕ) → List Told
plan_checks dims starts rows perm late =
    let n = length dims in
    let m = length rows in
    blocks_check n
    ∷ dims_check dims
    ∷ starts_check starts n m
    ∷ stored_check m
    ∷ rows_check from_diagonal starts rows n
    ∷ order_check starts rows n
    ∷ perm_check perm n
    ∷ late_check late n
    ∷ []

-- the verdict of `check_plan`
unfoldable pub plan_verdict : (dims starts rows perm late : List ℕ) → Told
plan_verdict dims starts rows perm late = verdict (plan_checks dims starts rows perm late)

-- a factor's tables: 4 is not tested
abbrev pub factor_checks : (dims starts rows : List ℕ) → (values : List Float) → List Told
factor_checks dims starts rows values =
    let n = length dims in
    blocks_check n
    ∷ dims_check dims
    ∷ starts_check starts n (length rows)
    ∷ rows_check past_diagonal starts rows n
    ∷ order_check starts rows n
    ∷ values_check dims starts rows (length values)
    ∷ []

-- the verdict of `check_factor`
unfoldable pub factor_verdict : (dims starts rows : List ℕ) → (values : List Float) → Told
factor_verdict dims starts rows values = verdict (factor_checks dims starts rows values)

-- an upper pattern of n blocks
abbrev pub upper_checks : (n : ℕ) → (starts rows : List ℕ) → List Told
upper_checks n starts rows = blocks_check n ∷ starts_check starts n (length rows) ∷ rows_check any_row starts rows n ∷ order_check starts rows n ∷ []

-- the verdict of `check_upper`
unfoldable pub upper_verdict : (n : ℕ) → (starts rows : List ℕ) → Told
upper_verdict n starts rows = verdict (upper_checks n starts rows)

-- an upper pattern with the parents of its blocks; of 5, the rows come first
abbrev pub tree_checks : (starts rows parents : List ℕ) → List Told
tree_checks starts rows parents =
    let n = length parents in
    blocks_check n ∷ starts_check starts n (length rows) ∷ rows_check any_row starts rows n ∷ parents_check parents ∷ order_check starts rows n ∷ []

-- the verdict of `check_tree`
unfoldable pub tree_verdict : (starts rows parents : List ℕ) → Told
tree_verdict starts rows parents = verdict (tree_checks starts rows parents)
