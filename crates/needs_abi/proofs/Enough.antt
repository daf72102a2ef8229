-- Buffers that have the needs are never refused by 11: each check of it passes, and one that passes drops out of a verdict. Assumes nothing.
use Rattle.std.specs.Prelude.{◌≡◌, ℕ, zero, suc, ◌≤◌, Bool, true, false, List, [], ◌∷◌, ◌++◌, length, take}
use Prim.Native.Nat.{zero-le}
use mathlib.Core.Path.{refl, sym, ap, subst, ◌∙◌}
use native.Mathlib.Omega.{arith}
use lib.ListN.{length-replicate}
use Rattle.refusal.specs.Refusal.{Told, tells, done, refuses, first_of, verdict_after, verdict}
use Rattle.refusal.specs.Check.{need_check, area_check}
use Rattle.refusal.proofs.Laws.{need-met, first-refuses, stays-refused}
use Rattle.needs.specs.Needs.{Lent, lent_from, need_checks, AllMet}
use Rattle.tables.specs.Verdict.{upper_verdict, tree_verdict, plan_verdict, system_verdict}
use Rattle.tables.proofs.Sound.{system-sound}
use Rattle.elimination_tree.specs.New.{new_verdict}
use Rattle.reach.specs.Walk.{block_check, reach_verdict}
use Rattle.plan_core.specs.Plan as plan
use Rattle.scalars.specs.Scalars.{scalar_count}
use Rattle.machine.specs.System.{System}
use Rattle.factor_setup.specs.Exact.{stored, numbers}
use Rattle.factor_core.specs.Factorize as factor
use Rattle.factor_core.specs.Cache.{lesser, most_kept, kept_list, whole_kept}
use Rattle.solve_checks.specs.Verdict.{solve_verdict}
use Rattle.solve_match.specs.Verdict.{match_verdict}
use Rattle.solve.specs.Solve.{lent_list, call_verdict}
use Rattle.marks.specs.Marks.{marks_checks, marks_verdict}
use Rattle.needs_abi.specs.Needs.{factor_needs, shaped}
use Rattle.needs_abi.specs.Enough.{Enough, TreeEnough, ReachEnough, PlanEnough, FactorEnough, CachedEnough, SolveEnough, MarksEnough}
use Rattle.needs_abi.proofs.Laws.{empty-tells, each_tells, bound}

-- ---- a check that passes drops out

drops : (v next : Told) → first_of (first_of v done) next ≡ first_of v next
drops (tells zero is xs) next = refl
drops (tells (suc n) is xs) next = refl

met : (b : Lent) → b.need ≤ b.have → need_check b.which b.have b.need ≡ done
met b m = need-met b.which b.have b.need m

-- after a verdict that is settled nothing is said, after any other that it passes
met-settled : (v : Told) (bs : List Lent) → first_of v done ≡ v → AllMet bs → verdict_after v (need_checks bs) ≡ v
met-settled v [] e m = refl
met-settled v (b ∷ bs) e m = ap (λ (t : Told). verdict_after t (need_checks bs)) (ap (first_of v) (met b m.0) ∙ e) ∙ met-settled v bs e m.1

met-after : (v : Told) (bs : List Lent) {k : ℕ} → length bs ≡ suc k → AllMet bs → verdict_after v (need_checks bs) ≡ first_of v done
met-after v [] e m = cc
met-after v (b ∷ bs) e m =
    ap (λ (t : Told). verdict_after (first_of v t) (need_checks bs)) (met b m.0) ∙ met-settled (first_of v done) bs (drops v done) m.1

-- ---- the tree and the walk

-- two buffers with a place for each block
each : (n x y : ℕ) → Enough (x ∷ y ∷ []) (n ∷ n ∷ []) → (need_check 0 x n ≡ done) × (need_check 1 y n ≡ done)
each n x y m = (need-met 0 x n m.0, need-met 1 y n m.1.0)

pub tree-enough : TreeEnough
unfolding new_verdict
tree-enough n starts rows parents ancestors m =
    let e = each n parents ancestors (subst (λ (l : List ℕ). Enough (parents ∷ ancestors ∷ []) l) (sym (each_tells n)) m) in
    let v = upper_verdict n starts rows in
    ap (λ (t : Told). first_of (first_of v t) (need_check 1 ancestors n)) e.0 ∙ (ap (first_of (first_of v done)) e.1 ∙ drops v done)

pub reach-enough : ReachEnough
unfolding reach_verdict
reach-enough starts rows parents j stamps found m =
    let n = length parents in
    let e = each n stamps found (subst (λ (l : List ℕ). Enough (stamps ∷ found ∷ []) l) (sym (each_tells n)) m) in
    let v = tree_verdict starts rows parents in
    let next = block_check j n in
    ap (λ (t : Told). first_of (first_of (first_of v t) (need_check 1 found n)) next) e.0
    ∙ (ap (λ (t : Told). first_of (first_of (first_of v done) t) next) e.1 ∙ (drops (first_of v done) next ∙ drops v next))

-- ---- the plan and the factorization: the needs known without the plan, then those that it shows

pub plan-enough : PlanEnough
unfolding plan.early
plan-enough a b m =
    let v = plan_verdict a.dims a.starts a.rows a.perm a.late in
    let known : AllMet (plan.first_list a b) = (m.0, (m.1.0, (m.1.1.0, (zero-le, m.1.1.1.1)))) in
    let shown : AllMet (plan.plan_list a b) = (m.1.1.1.0, tt) in
    let first : plan.early a b ≡ first_of v done = met-after v (plan.first_list a b) refl known in
    ap (λ (t : Told). plan.whole t a b) first ∙ met-settled (first_of v done) (plan.plan_list a b) (drops v done) shown

-- needs that are met before the plan and after it drop out
both-met :
    (a : System) (b : factor.Places) (shown : List Lent) → AllMet (factor.first_list a b) → AllMet shown →
    verdict_after (factor.early a b) (need_checks shown) ≡ first_of (system_verdict a.dims a.starts a.rows a.values a.perm a.late a.tol) done
unfolding factor.early
both-met a b shown known m =
    let v = system_verdict a.dims a.starts a.rows a.values a.perm a.late a.tol in
    ap (λ (t : Told). verdict_after t (need_checks shown)) (met-after v (factor.first_list a b) refl known) ∙ met-settled (first_of v done) shown (drops v done) m

-- the needs of a factorization are those known without the plan, and those that it shows
both-lists :
    (a : System) (b : factor.Places) (k : ℕ) → Enough (factor.lengths_of b) (factor_needs (shaped a.dims (length a.rows) k) (stored a) (numbers a)) →
    AllMet (factor.first_list a b) × AllMet (factor.plan_list a b)
both-lists a b k given =
    let m = rw (length-replicate {A = ℕ} (length a.rows) 0) at given in
    let plans = m.1.1.1 in
    ((m.0, (m.1.0, (m.1.1.0, (zero-le, (zero-le, (zero-le, plans.1.1.1)))))), (plans.1.0, (plans.1.1.0, (plans.0, tt))))

pub factor-enough : FactorEnough
unfolding factor.whole
factor-enough a b given = let m = both-lists a b 0 given in both-met a b (factor.plan_list a b) m.0 m.1

-- the last of the lent buffers
last-met :
    (which : ℕ) (hs ns : List ℕ) (h n : ℕ) → length hs ≡ length ns → AllMet (lent_from which (hs ++ h ∷ []) (ns ++ n ∷ [])) →
    AllMet (lent_from which hs ns) × (n ≤ h)
last-met which [] [] h n e m = (tt, m.0)
last-met which [] (y ∷ ys) h n e m = absurd (omega (arith, e))
last-met which (x ∷ xs) [] h n e m = absurd (omega (arith, e))
last-met which (x ∷ xs) (y ∷ ys) h n e m =
    let rest = last-met (suc which) xs ys h n (omega (arith, e)) m.1 in
    ((m.0, rest.0), rest.1)

-- where the verdict of the tables passes, they are as long as those of a system that is only shaped so
same-bound :
    (a : System) → refuses (system_verdict a.dims a.starts a.rows a.values a.perm a.late a.tol) ≡ false →
    most_kept (shaped a.dims (length a.rows) (length a.values)) ≡ most_kept a
same-bound a passes =
    let p = (system-sound a.dims a.starts a.rows a.values a.perm a.late a.tol passes).plan in
    bound a.dims (length a.rows) (length a.values) ∙ rw (p.columns.ordered.entries, p.permutes.entries, p.flags)

-- under a verdict that refuses nothing more is said
stopped :
    (a : System) (b : factor.Places) (cache : ℕ) → let v = system_verdict a.dims a.starts a.rows a.values a.perm a.late a.tol in
    refuses v ≡ true → whole_kept (factor.early a b) (most_kept a) a b cache ≡ first_of v done
unfolding factor.early whole_kept
stopped a b cache e =
    let v = system_verdict a.dims a.starts a.rows a.values a.perm a.late a.tol in
    let kept = need_checks (kept_list (most_kept a) a b cache) in
    ap (λ (t : Told). verdict_after t kept) (stays-refused v (need_checks (factor.first_list a b)) e) ∙ (stays-refused v kept e ∙ first-refuses v done e)

-- the cache is tested before L's row table
cached :
    (a : System) (b : factor.Places) (cache : ℕ) → AllMet (factor.first_list a b) → AllMet (factor.plan_list a b) → lesser (numbers a) (most_kept a) ≤ cache →
    whole_kept (factor.early a b) (most_kept a) a b cache ≡ first_of (system_verdict a.dims a.starts a.rows a.values a.perm a.late a.tol) done
unfolding whole_kept
cached a b cache known shown need = both-met a b (kept_list (most_kept a) a b cache) known (shown.0, (shown.1.0, (need, shown.1.1)))

pub cached-enough : CachedEnough
cached-enough a b cache given = by (refuses v) refl
  where
    v : Told
    v = system_verdict a.dims a.starts a.rows a.values a.perm a.late a.tol

    shape : System
    shape = shaped a.dims (length a.rows) (length a.values)

    by : (t : Bool) → refuses v ≡ t → whole_kept (factor.early a b) (most_kept a) a b cache ≡ first_of v done
    by true e = stopped a b cache e
    by false e =
        let m = last-met 0 (factor.lengths_of b) (factor_needs shape (stored a) (numbers a)) cache (lesser (numbers a) (most_kept shape)) refl given in
        let lists = both-lists a b (length a.values) m.0 in
        cached a b cache lists.0 lists.1 (subst (λ (k : ℕ). lesser (numbers a) k ≤ cache) (same-bound a e) m.1)

-- ---- the solve and the marks

pub solve-enough : SolveEnough
unfolding call_verdict
solve-enough dims starts rows perm late order parents l_starts l_rows l_offsets l_values diag d x y scalar_perm sizes scalar_starts m =
    ap (λ (t : Told). first_of (solve_verdict dims starts rows perm late parents l_starts l_rows l_values)
    (first_of t (match_verdict dims starts rows perm late order parents l_starts l_rows l_offsets diag d x)))
    (met-settled done (lent_list dims x y scalar_perm sizes scalar_starts) refl (zero-le, m.1))

pub marks-enough : MarksEnough
unfolding marks_verdict
marks-enough dims order d tol marks m =
    let v = verdict (take 4 (marks_checks dims order d tol marks)) in
    let next = area_check 2 (scalar_count dims) 1 d in
    let need = subst (λ (k : ℕ). k ≤ marks) (sym (empty-tells 0 (scalar_count dims))) m.0 in
    ap (λ (t : Told). first_of (first_of v t) next) (need-met 0 marks (scalar_count dims) need) ∙ drops v next
