-- The definition on document 01's night P1, links (1,0) (2,1) (3,0): its own plan is the same; without row 3 of column 1, with row 2 in
-- column 0, and with the parent 2 of block 0, the first wrong column and its kind are told. Assumes nothing.
use Rattle.std.specs.Prelude.{◌≡◌, ℕ, List, [], ◌∷◌, Result, Ok, Err}
use mathlib.Core.Path.{refl}
use Rattle.graph.specs.Symbolic.{climb, climbs, reach, column, columns, rows}
use Rattle.graph.specs.Liu.{walk, walks, forest, tree_parent}
use Rattle.tables.specs.Search.{first_from, first}
use Rattle.factor_match.specs.Match.{lacks, column_right, kind_at, first_wrong, match_of}
use Rattle.factor_match.specs.declared.cores.ColumnError.{ColumnError}
use Rattle.factor_match.specs.declared.cores.ColumnError.TheVariants as kind

abbrev night : (parents l_starts l_rows : List ℕ) → Result Unit ColumnError
night = match_of (0 ∷ 3 ∷ 5 ∷ 6 ∷ 7 ∷ []) (0 ∷ 1 ∷ 3 ∷ 1 ∷ 2 ∷ 2 ∷ 3 ∷ []) (0 ∷ 1 ∷ 2 ∷ 3 ∷ [])

pub told-of-p1 :
    (night (1 ∷ 2 ∷ 3 ∷ 4294967295 ∷ []) (0 ∷ 2 ∷ 4 ∷ 5 ∷ 5 ∷ []) (1 ∷ 3 ∷ 2 ∷ 3 ∷ 3 ∷ []) ≡ Ok tt)
    × (night (1 ∷ 2 ∷ 3 ∷ 4294967295 ∷ []) (0 ∷ 2 ∷ 3 ∷ 4 ∷ 4 ∷ []) (1 ∷ 3 ∷ 2 ∷ 3 ∷ []) ≡ Err (kind.Missing 1))
    × (night (1 ∷ 2 ∷ 3 ∷ 4294967295 ∷ []) (0 ∷ 3 ∷ 5 ∷ 6 ∷ 6 ∷ []) (1 ∷ 2 ∷ 3 ∷ 2 ∷ 3 ∷ 3 ∷ []) ≡ Err (kind.Extra 0))
    × (night (2 ∷ 2 ∷ 3 ∷ 4294967295 ∷ []) (0 ∷ 2 ∷ 4 ∷ 5 ∷ 5 ∷ []) (1 ∷ 3 ∷ 2 ∷ 3 ∷ 3 ∷ []) ≡ Err (kind.Parent 0))
unfolding lacks column_right kind_at first_wrong first_from first climb climbs reach column columns rows walk walks forest tree_parent
told-of-p1 = (refl, refl, refl, refl)
