-- The verdict on the tables of a solve, from document 01, "Who can cause a refusal", 1 to 9: A's tables, the permutation and the late
-- flags as for a plan, and the factor's tables. Within a number A's table is tested before the factor's, and within 5 the parents last. A
-- refusal of the factor's starts or rows carries 2 behind the place, which tells it from A's and from a parent's, which carries 1. Assumes
-- nothing.
use Rattle.std.specs.Prelude.{ℕ, ◌+◌, List, [], ◌∷◌, length}
use Rattle.std.specs.Prelude.{Float}
use Rattle.graph.specs.Order.{moved}
use Rattle.refusal.specs.Refusal.{Told, tells, verdict, bad_parent}
use Rattle.tables.specs.Verdict.{start_ok, parent_fits, row_fits, order_fits, fault_in, blocks_check, dims_check, starts_check, stored_check, rows_check, order_check, values_check, perm_check, late_check, from_diagonal, past_diagonal}
use Rattle.order.specs.Order.{sizes_of}

-- 3, 5, 6 of a factor's table: the place, and 2. A parent out of its range is told by `bad_parent`: the block, and 1
abbrev pub bad_factor : (number place : ℕ) → Told
bad_factor number place = tells number (place ∷ 2 ∷ []) []

-- 3: the factor's starts of n columns over m rows
unfoldable pub l_starts_check : (l_starts : List ℕ) → (n m : ℕ) → Told
l_starts_check l_starts n m = fault_in (start_ok l_starts n m) (n + 2) (bad_factor 3)

-- 5: each row of the factor past its column, to the last block
unfoldable pub l_rows_check : (l_starts l_rows : List ℕ) → (n : ℕ) → Told
l_rows_check l_starts l_rows n = fault_in (row_fits past_diagonal l_starts l_rows n) (length l_rows) (bad_factor 5)

-- 5: each parent in the table is none or a greater one of n blocks
unfoldable pub tree_check : (n : ℕ) → (parents : List ℕ) → Told
tree_check n parents = fault_in (parent_fits n parents) (length parents) bad_parent

-- 6: the rows of a column of the factor strictly increasing
unfoldable pub l_order_check : (l_starts l_rows : List ℕ) → (n : ℕ) → Told
l_order_check l_starts l_rows n = fault_in (order_fits l_starts l_rows n) (length l_rows) (bad_factor 6)

-- by number, but that 7, which goes by the dimensions under the order of elimination, comes to speak once 8 and 9 have passed. Each
-- parent that is there is read by the blocks of the system: that there are more or fewer parents than blocks is 12, which is not tested here
abbrev pub solve_checks : (dims starts rows perm late parents l_starts l_rows : List ℕ) → (l_values : List Float) → List Told
solve_checks dims starts rows perm late parents l_starts l_rows l_values =
    let n = length dims in
    blocks_check n
    ∷ dims_check dims
    ∷ starts_check starts n (length rows)
    ∷ l_starts_check l_starts n (length l_rows)
    ∷ stored_check (length rows)
    ∷ rows_check from_diagonal starts rows n
    ∷ l_rows_check l_starts l_rows n
    ∷ tree_check n parents
    ∷ order_check starts rows n
    ∷ l_order_check l_starts l_rows n
    ∷ perm_check perm n
    ∷ late_check late n
    ∷ values_check (sizes_of dims (moved perm late)) l_starts l_rows (length l_values)
    ∷ []

-- the verdict of `check_solve`
unfoldable pub solve_verdict : (dims starts rows perm late parents l_starts l_rows : List ℕ) → (l_values : List Float) → Told
solve_verdict dims starts rows perm late parents l_starts l_rows l_values = verdict (solve_checks dims starts rows perm late parents l_starts l_rows l_values)
