-- One entry of a block, asked for by its row and column. Assumes nothing.
use Rattle.std.specs.Prelude.{ℕ, cond, List, [], ◌∷◌, length, nat_lt}
use Rattle.std.specs.Prelude.{Float, Result}
use Rattle.scalar.specs.Block.{at}
use Rattle.refusal.specs.Refusal.{Told, accepted, done, shapes_disagree, told_by, first_of, verdict}
use Rattle.refusal.specs.Shaped.{told_error}
use Rattle.refusal.specs.declared.ShapeError.{ShapeError}
use Rattle.refusal.specs.Check.{size_check, area_check}

-- the outcome as document 01 words it
abbrev pub told_looked : Result Float ShapeError → Told
told_looked = told_by (λ x. accepted [] (x ∷ [])) told_error

-- 12: an index passes that is below `n`
abbrev pub index_check : (place i n : ℕ) → Told
index_check place i n = cond (nat_lt i n) done (shapes_disagree place)

-- what is refused, by the sizes and by how many numbers the slice has
unfoldable pub entry_verdict : (height width count r c : ℕ) → Told
entry_verdict height width count r c = verdict (size_check 0 0 height ∷ size_check 0 1 width ∷ area_check 0 height width count ∷ index_check 1 r height ∷ index_check 2 c width ∷ [])

-- the entry (r, c) of a block of that height and width, where nothing is refused
abbrev pub entry_of : List Float → (height width r c : ℕ) → Told
entry_of m height width r c = first_of (entry_verdict height width (length m) r c) (accepted [] (at m height r c ∷ []))
