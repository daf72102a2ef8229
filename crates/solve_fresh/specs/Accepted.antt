-- What a solve never refuses: "all that the list doesn't name is accepted". proofs/Accepted.antt shows it. Assumes nothing.
use Rattle.std.specs.Prelude.{ℕ, ◌+◌, ◌≤◌, false, List, ◌≡◌, Float, length, take}
use Rattle.graph.specs.Order.{moved}
use Rattle.refusal.specs.Refusal.{refuses}
use Rattle.tables.specs.Verdict.{areas, plan_verdict}
use Rattle.order.specs.Order.{sizes_of}
use Rattle.scalars.specs.Scalars.{scalar_count}
use Rattle.machine.specs.System.{System, blocks}
use Rattle.layout.specs.Layout.{units_need}
use Rattle.factor_setup.specs.Exact.{stored, numbers}
use Rattle.factor_core.specs.Factorize.{Factorized, told, Places, early, Factors}
use Rattle.solve_match.specs.Fresh.{Fresh}
use Rattle.solve.specs.Solve.{call_verdict}

-- scratch of so many places each is enough for a solve
pub record Enough (dims : List ℕ) (y scalar_perm sizes scalar_starts : ℕ) : Type 0 where
  pub of_y : scalar_count dims ≤ y
  pub of_scalar_perm : scalar_count dims ≤ scalar_perm
  pub of_sizes : length dims ≤ sizes
  pub of_scalar_starts : length dims + 1 ≤ scalar_starts

-- Of a system whose own tables pass, the plan's tables with as many values as their blocks have numbers are accepted, whatever the values.
abbrev pub PlanAccepted : Type 0
PlanAccepted =
    (dims starts rows perm late order parents l_starts l_rows l_offsets : List ℕ) (l_values : List Float) (diag d x y scalar_perm sizes scalar_starts : ℕ)
    → refuses (plan_verdict dims starts rows perm late) ≡ false → Fresh dims starts rows perm late order parents l_starts l_rows l_offsets diag d x
    → length l_values ≡ areas (sizes_of dims (moved perm late)) l_starts l_rows → Enough dims y scalar_perm sizes scalar_starts
    → refuses (call_verdict dims starts rows perm late order parents l_starts l_rows l_offsets l_values diag d x y scalar_perm sizes scalar_starts) ≡ false

-- So is what an accepted factorization leaves, each list cut to the places that it fills, in a solve with the same system and a right
-- side with a number for each scalar.
abbrev pub FactorAccepted : Type 0
FactorAccepted =
    (a : System) (lent : Places) (r : Factorized) (left : Places) → Factors (early a lent) a lent r left → refuses (told r) ≡ false → numbers a ≤ length left.l_values
    → (y scalar_perm sizes scalar_starts : ℕ) → Enough a.dims y scalar_perm sizes scalar_starts
    → refuses (call_verdict a.dims a.starts a.rows a.perm a.late
    (take (blocks a) left.order) (take (blocks a) left.parents) (take (blocks a + 1) left.l_starts) (take (stored a) left.l_rows) (take (stored a + 1) left.l_offsets)
    (take (numbers a) left.l_values) (units_need a.dims) (scalar_count a.dims) (scalar_count a.dims) y scalar_perm sizes scalar_starts) ≡ false
