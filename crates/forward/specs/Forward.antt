-- The forward part of the solve on a flat list, for all columns that the factor's tables hold: where the list showed a vector, it shows
-- the one after it. Assumes nothing.
use Rattle.std.specs.Prelude.{ℕ, List, length}
use Rattle.std.specs.Prelude.{Float}
use Rattle.scalar.specs.Block.{within}
use Rattle.kernel_vector.specs.Vector.{sub_mat_plus_vec}
use Rattle.machine.specs.Machine.{Column}
use Rattle.block_product.specs.Working.{slot}
use Rattle.layout.specs.Layout.{Tables, side}
use Rattle.solution.specs.Solution.{Vector, forward}
use Rattle.solution.specs.Flat.{HoldsRows, ShowsVector}
use Rattle.sweep.specs.Sweep.{Pass}

-- columns ascending; the h numbers from t on lose A times the w numbers from s on
abbrev pub forward_pass : Pass
forward_pass = record { column = λ n t. t; row = λ h w a s t y. within t h (λ z. sub_mat_plus_vec h w z a (slot s w y)) y }

module _ (t : Tables) (starts : List ℕ) (l_values : List Float) where
  -- the first n columns
  abbrev pub Forwards : ℕ → (y y' : List Float) → Type 0
  Forwards n y y' =
      (col : ℕ → Column) → HoldsRows t l_values (length t.sizes) col → (x : Vector) → ShowsVector t.sizes starts y x → ShowsVector t.sizes starts y' (forward (side t) col n x)
