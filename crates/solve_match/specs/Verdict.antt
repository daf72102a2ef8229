-- 12 of document 01 for a solve: "shapes that disagree, a right side of another length included, a factor whose tables aren't those of the
-- system it is called with". A refusal carries the place of the slice in the call, counted from 0:
--     0 dims, 1 starts, 2 rows, 3 perm, 4 late, 5 order, 6 parents, 7 l_starts, 8 l_rows, 9 l_offsets, 10 l_values, 11 diag, 12 d, 13 x
-- and where a column of the factor is wrong that column, by new number, and what is wrong with it. What disagrees of 0 to 4, 7, 8 and
-- 10 alone has its own number, 1 to 9. Assumes nothing.
use Rattle.std.specs.Prelude.{ℕ, Bool, cond, List, [], ◌∷◌, length, Result}
use Rattle.graph.specs.Order.{moved}
use Rattle.refusal.specs.Refusal.{Told, tells, done, told_by, shapes_disagree, verdict}
use Rattle.refusal.specs.Check.{area_check}
use Rattle.order.specs.Order.{sizes_of}
use Rattle.scalars.specs.Scalars.{scalar_count}
use Rattle.scalars.specs.Bodies.{offsets}
use Rattle.layout.specs.Layout.{units_need}
use Rattle.factor_match.specs.Match.{match_of}
use Rattle.factor_match.specs.declared.cores.ColumnError.{ColumnError}
use Rattle.factor_match.specs.declared.cores.ColumnError.TheVariants as kind
use Rattle.factor_order.specs.Same.{same_list}

-- a table passes that is the one it must be
abbrev pub table_check : (place : ℕ) → Bool → Told
table_check place same = cond same done (shapes_disagree place)

-- a slice passes that has exactly so many entries
abbrev pub count_check : (place need count : ℕ) → Told
count_check place need count = area_check place need 1 count

-- a wrong column: the table that shows it, the column, and 0 for a missing row, 1 for one too many, 2 for a parent that is off
abbrev pub bad_column : (place column kind : ℕ) → Told
bad_column place column kind = tells 12 (place ∷ column ∷ kind ∷ []) []

-- the columns pass that have the rows of the path rule and the parents of the elimination tree
abbrev pub told_column : ColumnError → Told
told_column (kind.Missing column) = bad_column 8 column 0
told_column (kind.Extra column) = bad_column 8 column 1
told_column (kind.Parent column) = bad_column 6 column 2

abbrev pub told_match : Result Unit ColumnError → Told
told_match = told_by (λ w. done) told_column

-- where L's bodies begin, and how many numbers the unit factors, d and the right side have
abbrev pub shape_checks : (dims order l_starts l_rows l_offsets : List ℕ) → (diag d x : ℕ) → List Told
shape_checks dims order l_starts l_rows l_offsets diag d x =
    table_check 9 (same_list l_offsets (offsets (sizes_of dims order) l_starts l_rows))
    ∷ count_check 11 (units_need dims) diag
    ∷ count_check 12 (scalar_count dims) d
    ∷ count_check 13 (scalar_count dims) x
    ∷ []

-- in the order of the call: the order is the permutation after the late move; there is a parent for each block; the columns and the
-- parents are those of A's links under it; then the shapes
abbrev pub match_checks : (dims starts rows perm late order parents l_starts l_rows l_offsets : List ℕ) → (diag d x : ℕ) → List Told
match_checks dims starts rows perm late order parents l_starts l_rows l_offsets diag d x =
    table_check 5 (same_list order (moved perm late))
    ∷ count_check 6 (length dims) (length parents)
    ∷ told_match (match_of starts rows order parents l_starts l_rows)
    ∷ shape_checks dims order l_starts l_rows l_offsets diag d x

-- the verdict of 12
unfoldable pub match_verdict : (dims starts rows perm late order parents l_starts l_rows l_offsets : List ℕ) → (diag d x : ℕ) → Told
match_verdict dims starts rows perm late order parents l_starts l_rows l_offsets diag d x =
    verdict (match_checks dims starts rows perm late order parents l_starts l_rows l_offsets diag d x)
