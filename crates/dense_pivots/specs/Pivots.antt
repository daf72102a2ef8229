-- What the stored pivots d of a block say of it. Under a tolerance that passes 10 a pivot that was dropped is stored as 0.0, and no other is, so d tells all.
-- Assumes nothing.
use Rattle.std.specs.Prelude.{ℕ, ◌+◌, true, false, cond, ◌||◌, List, [], ◌∷◌, ◌==◌, slice_index_or}
use Rattle.std.specs.Prelude.{Float}
use Rattle.std.specs.Float.{nan, binary64}
use Rattle.std.specs.Float.Ieee.{mul, div, eq, lt}
use Rattle.scalar.specs.Loop.{steps}
use Rattle.scalar.specs.Scalar.{nought, one, greatest_finite, magnitude, max, min}
use Rattle.refusal.specs.Refusal.{Told, accepted}
use Rattle.dense_pivots.specs.declared.cores.Pivots.{Pivots}
use Rattle.dense_pivots.specs.declared.Definiteness.{Definiteness}
use Rattle.dense_pivots.specs.declared.Definiteness.TheVariants.{PositiveDefinite, PositiveSemiDefinite, Indefinite}
use Rattle.dense_pivots.specs.declared.LdltResult.{LdltResult}

-- before any pivot: the greatest starts at 1.0
abbrev pub no_pivots : Pivots
no_pivots = record { greatest = one; least = greatest_finite; rank = 0; dropped = false; negative = false }

-- with one more stored pivot x
unfoldable pub counted : Float → Pivots → Pivots
counted x p =
    cond (eq x nought)
    (record { greatest = p.greatest; least = p.least; rank = p.rank; dropped = true; negative = p.negative })
    (record { greatest = max p.greatest (magnitude x); least = min p.least (magnitude x); rank = p.rank + 1; dropped = p.dropped; negative = lt x nought || p.negative })

-- the account of the first j of d
unfoldable pub pivots_of : List Float → ℕ → Pivots
pivots_of d j = steps (λ p. counted (slice_index_or d p nan)) j no_pivots

-- the tolerance of row j: the greatest pivot so far times tol_rel
abbrev pub row_tolerance : Float → List Float → ℕ → Float
row_tolerance tol d j = mul binary64 (pivots_of d j).greatest tol

-- ---- the record

abbrev pub definiteness_of : Pivots → Definiteness
definiteness_of p = cond p.negative Indefinite (cond p.dropped PositiveSemiDefinite PositiveDefinite)

-- the least |d| that is not 0.0 over the greatest; 0.0 where all are 0.0
abbrev pub condition_of : Pivots → Float
condition_of p = cond (p.rank == 0) nought (div binary64 p.least p.greatest)

abbrev pub recorded : Pivots → LdltResult
recorded p = record { rank = p.rank; definiteness = definiteness_of p; pivot_condition = condition_of p }

-- the record of a block, from its tolerance and its stored d: all who speak of a block's record cite this
abbrev pub result_of : Float → List Float → ℕ → LdltResult
result_of tol d n = recorded (pivots_of d n)

-- the definiteness as a number: positive definite 0, positive semi-definite 1, indefinite 2
abbrev pub definiteness_number : Definiteness → ℕ
definiteness_number PositiveDefinite = 0
definiteness_number PositiveSemiDefinite = 1
definiteness_number Indefinite = 2

-- an accepted block: its rank and definiteness, and its condition
abbrev pub told_result : LdltResult → Told
told_result r = accepted (r.rank ∷ definiteness_number r.definiteness ∷ []) (r.pivot_condition ∷ [])
