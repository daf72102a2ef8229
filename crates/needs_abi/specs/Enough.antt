-- Buffers that have the needs are never refused by 11: what is left of a call's verdict is that of its other checks. proofs/Enough.antt
-- shows it of each call. Assumes nothing.
use Rattle.std.specs.Prelude.{◌≡◌, ℕ, List, [], ◌∷◌, ◌++◌, length, take, drop}
use Rattle.std.specs.Prelude.{Float}
use Rattle.refusal.specs.Refusal.{done, first_of, verdict}
use Rattle.needs.specs.Needs.{lent_from, AllMet}
use Rattle.tables.specs.Verdict.{upper_verdict, tree_verdict, plan_verdict, system_verdict}
use Rattle.elimination_tree.specs.New.{new_verdict}
use Rattle.reach.specs.Walk.{block_check, reach_verdict}
use Rattle.analysis.specs.Plan.{stored_of}
use Rattle.plan_core.specs.Plan.{Night, blocks, links}
use Rattle.plan_core.specs.Plan as plan
use Rattle.machine.specs.System.{System}
use Rattle.factor_setup.specs.Exact.{stored, numbers}
use Rattle.factor_core.specs.Factorize as factor
use Rattle.factor_core.specs.Cache.{most_kept, whole_kept}
use Rattle.solve_checks.specs.Verdict.{solve_verdict}
use Rattle.solve_match.specs.Verdict.{match_verdict}
use Rattle.solve.specs.Solve.{call_verdict}
use Rattle.marks.specs.Marks.{marks_checks, marks_verdict}
use Rattle.needs_abi.specs.Needs.{tree_needs, reach_needs, plan_needs, factor_needs, cached_needs, shaped, solve_needs, marks_needs}

-- each length is at least its need
abbrev pub Enough : (lengths needs : List ℕ) → Type 0
Enough lengths needs = AllMet (lent_from 0 lengths needs)

abbrev pub TreeEnough : Type 0
TreeEnough =
    (n : ℕ) (starts rows : List ℕ) (parents ancestors : ℕ) → Enough (parents ∷ ancestors ∷ []) (tree_needs n)
    → new_verdict n starts rows parents ancestors ≡ first_of (upper_verdict n starts rows) done

abbrev pub ReachEnough : Type 0
ReachEnough =
    (starts rows parents : List ℕ) (j stamps found : ℕ) → Enough (stamps ∷ found ∷ []) (reach_needs (length parents))
    → reach_verdict starts rows parents j stamps found ≡ first_of (tree_verdict starts rows parents) (block_check j (length parents))

-- with L's blocks as the plan tells them
abbrev pub PlanEnough : Type 0
PlanEnough =
    (a : Night) (b : plan.Places) → Enough (plan.lengths_of b) (plan_needs (blocks a) (length a.rows) (stored_of (links a) (blocks a)))
    → plan.whole (plan.early a b) a b ≡ first_of (plan_verdict a.dims a.starts a.rows a.perm a.late) done

-- with L's blocks and L's numbers as the plan tells them
abbrev pub FactorEnough : Type 0
FactorEnough =
    (a : System) (b : factor.Places) → Enough (factor.lengths_of b) (factor_needs (shaped a.dims (length a.rows) 0) (stored a) (numbers a))
    → factor.whole (factor.early a b) a b ≡ first_of (system_verdict a.dims a.starts a.rows a.values a.perm a.late a.tol) done

-- the same with a cache
abbrev pub CachedEnough : Type 0
CachedEnough =
    (a : System) (b : factor.Places) (cache : ℕ)
    → Enough (factor.lengths_of b ++ cache ∷ []) (cached_needs (shaped a.dims (length a.rows) (length a.values)) (stored a) (numbers a))
    → whole_kept (factor.early a b) (most_kept a) a b cache ≡ first_of (system_verdict a.dims a.starts a.rows a.values a.perm a.late a.tol) done

abbrev pub SolveEnough : Type 0
SolveEnough =
    (dims starts rows perm late order parents l_starts l_rows l_offsets : List ℕ) (l_values : List Float) (diag d x y scalar_perm sizes scalar_starts : ℕ)
    → Enough (x ∷ y ∷ scalar_perm ∷ sizes ∷ scalar_starts ∷ []) (solve_needs dims)
    → call_verdict dims starts rows perm late order parents l_starts l_rows l_offsets l_values diag d x y scalar_perm sizes scalar_starts
    ≡ first_of (solve_verdict dims starts rows perm late parents l_starts l_rows l_values) (match_verdict dims starts rows perm late order parents l_starts l_rows l_offsets diag d x)

-- all checks but the fifth
abbrev pub MarksEnough : Type 0
MarksEnough =
    (dims order : List ℕ) (d : ℕ) (tol : Float) (marks : ℕ) → Enough (marks ∷ []) (marks_needs dims)
    → marks_verdict dims order d tol marks ≡ verdict (take 4 (marks_checks dims order d tol marks) ++ drop 5 (marks_checks dims order d tol marks))
