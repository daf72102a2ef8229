-- How long the buffers of a factorization are, beside their needs. Assumes nothing.
use Rattle.std.specs.Prelude.{◌≡◌, ℕ, ◌+◌, ◌≤◌, List, length}
use Rattle.std.specs.Prelude.{Float}
use Rattle.scalars.specs.Scalars.{scalar_count}
use Rattle.machine.specs.System.{System, blocks}
use Rattle.layout.specs.Layout.{units_need, work_need}

-- a buffer is long enough, or has exactly its need
abbrev pub Enough : (need have : ℕ) → Type 0
Enough need have = need ≤ have

abbrev pub Exactly : (need have : ℕ) → Type 0
Exactly need have = have ≡ need

-- the outputs but L's rows, offsets and values
pub record OutputRoom (R : ℕ → ℕ → Type 0) (a : System) (order parents l_starts : List ℕ) (diag d : List Float) : Type 0 where
  pub of_order : R (blocks a) (length order)
  pub of_parents : R (blocks a) (length parents)
  pub of_l_starts : R (blocks a + 1) (length l_starts)
  pub of_diag : R (units_need a.dims) (length diag)
  pub of_d : R (scalar_count a.dims) (length d)

-- the scratch of the plan
pub record PlanScratch (R : ℕ → ℕ → Type 0) (a : System) (inverse sizes count heads into stamps table upper : List ℕ) : Type 0 where
  pub of_inverse : R (blocks a) (length inverse)
  pub of_sizes : R (blocks a) (length sizes)
  pub of_count : R (blocks a) (length count)
  pub of_heads : R (blocks a + 1) (length heads)
  pub of_into : R (blocks a + 1) (length into)
  pub of_stamps : R (blocks a) (length stamps)
  pub of_table : R (length a.rows) (length table)
  pub of_upper : R (length a.rows) (length upper)

-- the scratch of the numbers
pub record NumberScratch (R : ℕ → ℕ → Type 0) (a : System) (column : List Float) (bodies unit_starts d_starts places : List ℕ) : Type 0 where
  pub of_column : R (work_need a.dims) (length column)
  pub of_bodies : R (length a.rows + 1) (length bodies)
  pub of_unit_starts : R (blocks a + 1) (length unit_starts)
  pub of_d_starts : R (blocks a + 1) (length d_starts)
  pub of_places : R (blocks a) (length places)
