-- The answer of a call that refuses 2 and 12 alone. Assumes nothing.
use Rattle.std.specs.Prelude.{List, ◌≡◌, Float, Result}
use Rattle.refusal.specs.Refusal.{Told, done, bad_dimension, shapes_disagree, told_by, after}
use Rattle.refusal.specs.declared.ShapeError.{ShapeError}
use Rattle.refusal.specs.declared.ShapeError.TheVariants.{Dimension, Mismatch}

abbrev pub told_error : ShapeError → Told
told_error (Dimension place) = bad_dimension place
told_error (Mismatch place) = shapes_disagree place

abbrev pub told : Result Unit ShapeError → Told
told = told_by (λ w. done) told_error

-- the promise of such a call with one buffer that it writes: its verdict, and the buffer afterwards
pub record Answers (v : Told) (old new : List Float) (r : Result Unit ShapeError) (now : List Float) : Type 0 where
  pub outcome : told r ≡ v
  pub buffer : now ≡ after v old new
