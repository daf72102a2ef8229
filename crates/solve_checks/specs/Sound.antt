-- What the tables of a solve that pass say at every place. proofs/Sound.antt shows it from the verdict. Assumes nothing.
use Rattle.std.specs.Prelude.{◌≡◌, ℕ, ◌<◌, ◌⊎◌, List, length}
use Rattle.std.specs.Prelude.{Float}
use Rattle.graph.specs.Order.{moved}
use Rattle.tables.specs.Verdict.{at}
use Rattle.tables.specs.Sound.{PlanSound, FactorSound}
use Rattle.order.specs.Order.{sizes_of}

pub record SolveSound (dims starts rows perm late parents l_starts l_rows : List ℕ) (l_values : List Float) : Type 0 where
  -- what a plan is made from
  pub plan : PlanSound dims starts rows perm late
  -- the factor's tables, with the dimensions under the order of elimination
  pub factor : FactorSound (sizes_of dims (moved perm late)) l_starts l_rows l_values
  -- each parent is none or a greater block of the system
  pub tree : (k : ℕ) → k < length parents → (at parents k ≡ 4294967295) ⊎ ((k < at parents k) × (at parents k < length dims))
