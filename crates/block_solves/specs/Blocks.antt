-- The blocks of the solve on a flat list, for all columns whose factors the flat lists hold: where the list showed a vector, it shows
-- the one after it. Assumes nothing.
use Rattle.std.specs.Prelude.{ℕ, List, length}
use Rattle.std.specs.Prelude.{Float}
use Rattle.tables.specs.Verdict.{at}
use Rattle.machine.specs.Machine.{Column}
use Rattle.solution.specs.Solution.{Vector, solved_block, solved_blocks}
use Rattle.solution.specs.Flat.{HoldsFactors, ShowsVector}

module _ (sizes starts : List ℕ) (diag d : List Float) where
  -- the first n blocks
  abbrev pub Solves : ℕ → (y y' : List Float) → Type 0
  Solves n y y' = (col : ℕ → Column) → HoldsFactors sizes diag d (length sizes) col → (x : Vector) → ShowsVector sizes starts y x → ShowsVector sizes starts y' (solved_blocks (at sizes) col n x)

  -- block j
  abbrev pub SolvesBlock : ℕ → (y y' : List Float) → Type 0
  SolvesBlock j y y' = (col : ℕ → Column) → HoldsFactors sizes diag d (length sizes) col → (x : Vector) → ShowsVector sizes starts y x → ShowsVector sizes starts y' (solved_block (at sizes) col j x)
