-- The backward part of the solve on a flat list, for all columns that the factor's tables hold: where the list showed a vector, it shows
-- the one after it. Assumes nothing.
use Rattle.std.specs.Prelude.{ℕ, ◌-◌, List, length}
use Rattle.std.specs.Prelude.{Float}
use Rattle.scalar.specs.Block.{within}
use Rattle.kernel_vector_transpose.specs.VectorTranspose.{sub_mat_transpose_plus_vec}
use Rattle.machine.specs.Machine.{Column}
use Rattle.block_product.specs.Working.{slot}
use Rattle.layout.specs.Layout.{Tables, side}
use Rattle.solution.specs.Solution.{Vector, backward}
use Rattle.solution.specs.Flat.{HoldsRows, ShowsVector}
use Rattle.sweep.specs.Sweep.{Pass}

-- columns descending; the w numbers from s on lose Aᵀ times the h numbers from t on
abbrev pub backward_pass : Pass
backward_pass = record { column = λ n t. n - 1 - t; row = λ h w a s t y. within s w (λ z. sub_mat_transpose_plus_vec h w z a (slot t h y)) y }

module _ (t : Tables) (starts : List ℕ) (l_values : List Float) where
  -- all n columns
  abbrev pub Backwards : ℕ → (y y' : List Float) → Type 0
  Backwards n y y' =
      (col : ℕ → Column) → HoldsRows t l_values (length t.sizes) col → (x : Vector) → ShowsVector t.sizes starts y x → ShowsVector t.sizes starts y' (backward (side t) col n x)
