-- 12 on the system of document 01's sheet, two blocks of dimension 1 and the link (1, 0): its own factor passes; what is stale or of another
-- length is told with its place, and a wrong column with the column and the kind. Assumes nothing.
use Rattle.std.specs.Prelude.{◌≡◌, ℕ, List, [], ◌∷◌}
use mathlib.Core.Path.{refl}
use Rattle.graph.specs.Symbolic.{climb, climbs, reach, column, columns, rows}
use Rattle.graph.specs.Liu.{walk, walks, forest, tree_parent}
use Rattle.graph.specs.Order.{moved}
use Rattle.refusal.specs.Refusal.{Told, done, shapes_disagree}
use Rattle.buckets.specs.Buckets.{before}
use Rattle.tables.specs.Search.{first_from, first, sum_from, sum}
use Rattle.tables.specs.Verdict.{column_of, block_area}
use Rattle.order.specs.Order.{sizes_of}
use Rattle.scalars.specs.Bodies.{offsets}
use Rattle.layout.specs.Layout.{squares}
use Rattle.factor_match.specs.Match.{lacks, column_right, kind_at, first_wrong}
use Rattle.factor_order.specs.Same.{same_list}
use Rattle.solve_match.specs.Verdict.{bad_column, match_verdict}

-- the sheet's system with late flags, and a factor
abbrev sheet : (late order parents l_starts l_rows l_offsets : List ℕ) → (diag d x : ℕ) → Told
sheet = match_verdict (1 ∷ 1 ∷ []) (0 ∷ 2 ∷ 3 ∷ []) (0 ∷ 1 ∷ 1 ∷ []) (0 ∷ 1 ∷ [])

abbrev none : List ℕ
none = 0 ∷ 0 ∷ []

pub told-of-sheet :
    (sheet none (0 ∷ 1 ∷ []) (1 ∷ 4294967295 ∷ []) (0 ∷ 1 ∷ 1 ∷ []) (1 ∷ []) (0 ∷ 1 ∷ []) 2 2 2 ≡ done)
    × (sheet (1 ∷ 0 ∷ []) (0 ∷ 1 ∷ []) (1 ∷ 4294967295 ∷ []) (0 ∷ 1 ∷ 1 ∷ []) (1 ∷ []) (0 ∷ 1 ∷ []) 2 2 2 ≡ shapes_disagree 5)
    × (sheet none (0 ∷ 1 ∷ []) (1 ∷ []) (0 ∷ 1 ∷ 1 ∷ []) (1 ∷ []) (0 ∷ 1 ∷ []) 2 2 2 ≡ shapes_disagree 6)
    × (sheet none (0 ∷ 1 ∷ []) (1 ∷ 4294967295 ∷ []) (0 ∷ 0 ∷ 0 ∷ []) [] (0 ∷ []) 2 2 2 ≡ bad_column 8 0 0)
    × (sheet none (0 ∷ 1 ∷ []) (4294967295 ∷ 4294967295 ∷ []) (0 ∷ 1 ∷ 1 ∷ []) (1 ∷ []) (0 ∷ 1 ∷ []) 2 2 2 ≡ bad_column 6 0 2)
    × (sheet none (0 ∷ 1 ∷ []) (1 ∷ 4294967295 ∷ []) (0 ∷ 1 ∷ 1 ∷ []) (1 ∷ []) (0 ∷ 2 ∷ []) 2 2 2 ≡ shapes_disagree 9)
    × (sheet none (0 ∷ 1 ∷ []) (1 ∷ 4294967295 ∷ []) (0 ∷ 1 ∷ 1 ∷ []) (1 ∷ []) (0 ∷ 1 ∷ []) 3 2 2 ≡ shapes_disagree 11)
    × (sheet none (0 ∷ 1 ∷ []) (1 ∷ 4294967295 ∷ []) (0 ∷ 1 ∷ 1 ∷ []) (1 ∷ []) (0 ∷ 1 ∷ []) 2 2 1 ≡ shapes_disagree 13)
unfolding match_verdict same_list moved offsets sizes_of before squares column_of block_area sum sum_from lacks column_right kind_at first_wrong first_from first climb climbs reach column columns rows walk walks forest tree_parent
told-of-sheet = (refl, refl, refl, refl, refl, refl, refl, refl)
