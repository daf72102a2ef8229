-- What the plan answers where the tables or the needs refuse, and how a plan in the first places of longer buffers is one in the whole. Assumes nothing.
use Rattle.std.specs.Prelude.{◌≡◌, ℕ, ◌+◌, ◌≤◌, Bool, true, false, cond, List, ◌++◌, length, get_or, take, drop, Result, Ok, Err}
use mathlib.Core.Bool.{false≢true}
use mathlib.Core.Path.{refl, sym, ap, subst, ◌∙◌}
use lib.ListN.{take-append-drop}
use lib.Seq.{length-take-le}
use Rattle.std.specs.Result.{IsErr, IsErrAnd}
use Rattle.graph.specs.Tree.{Parent}
use Rattle.refusal.specs.Refusal.{Told, done, refuses, verdict, verdict_after, after}
use Rattle.refusal.proofs.Laws.{stays-refused, first-refuses}
use Rattle.needs.specs.Needs.{need_checks, AllMet}
use Rattle.tables.specs.Verdict.{plan_verdict}
use Rattle.checks.specs.Outcome.{told_plan_error}
use Rattle.checks.specs.declared.PlanTablesError.{PlanTablesError}
use Rattle.elimination_tree.specs.Tree.{decode, parents_of}
use Rattle.analysis.specs.Plan.{starts_of}
use Rattle.plan_core.specs.Plan.{told, told_error, Night, Places, blocks, links, first_list, plan_list, early, whole, Plans}
use Rattle.analysis.specs.declared.cores.Counts.{Counts}
use Rattle.plan_core.specs.declared.PlanError.{PlanError}
use Rattle.plan_core.specs.declared.PlanError.TheVariants.{Blocks, Dimension, Starts, Stored, Row, Order, Permutation, Late, Short}
use Rattle.plan_core.proofs.Laws.{path_rule, all_products, liu-parents, exact}

-- ---- refused before the plan: nothing is changed

pub refused : (v : Told) (a : Night) (b : Places) (r : Result Counts PlanError) → told r ≡ v → refuses v ≡ true → Plans v a b r b
refused v a b r e stops =
    let w = whole v a b in
    let stays : w ≡ v = stays-refused v (need_checks (plan_list a b)) stops in
    let also : refuses w ≡ true = ap refuses stays ∙ stops in
    let out : (old new : List ℕ) → old ≡ after w old new = λ old new. sym (ap (λ (x : Bool). cond x old new) also) in
    let scratch : (old new : List ℕ) → old ≡ after v old new = λ old new. sym (ap (λ (x : Bool). cond x old new) stops) in
    record {
      outcome = e ∙ (sym stays ∙ first-refuses w _ also);
      order = out b.order _;
      parents = out b.parents _;
      l_starts = out b.l_starts _;
      l_rows = out b.l_rows _;
      inverse = scratch b.inverse _;
      sizes = scratch b.sizes _;
      count = scratch b.count _;
      heads = scratch b.heads _;
      into = scratch b.into _;
      stamps = scratch b.stamps _;
      table = scratch b.table _;
      upper = scratch b.upper _;
      liu = λ passes. absurd (false≢true (sym passes ∙ also));
      path = path_rule a;
      products = all_products a;
    }

-- each error is a refusal
error-refuses : (e : PlanError) → refuses (told_error e) ≡ true
error-refuses Blocks = refl
error-refuses (Dimension place) = refl
error-refuses (Starts place) = refl
error-refuses Stored = refl
error-refuses (Row place) = refl
error-refuses (Order place) = refl
error-refuses (Permutation place) = refl
error-refuses (Late place) = refl
error-refuses (Short which need) = refl

-- the tables are refused, and so is the call, in the same words
pub tables_refused : (a : Night) (b : Places) (u : PlanTablesError) (r : Result Counts PlanError) → IsErr r × IsErrAnd r (λ f. told_error f ≡ told_plan_error u) →
    told_plan_error u ≡ plan_verdict a.dims a.starts a.rows a.perm a.late → Plans (early a b) a b r b
unfolding early
tables_refused a b u (Ok x) p t = absurd (false≢true p.0)
tables_refused a b u (Err r) p t =
    let same : told_error r ≡ plan_verdict a.dims a.starts a.rows a.perm a.late = p.1 ∙ t in
    let checks = need_checks (first_list a b) in
    let stops : refuses (told_error r) ≡ true = error-refuses r in
    let stays : early a b ≡ told_error r = ap (λ (t : Told). verdict_after t checks) (sym same) ∙ stays-refused (told_error r) checks stops in
    refused (early a b) a b (Err r) (sym stays) (ap refuses stays ∙ stops)

-- the needs refuse, and so does the call
pub needs-refused : (a : Night) (b : Places) (v : Told) (e : PlanError) (r : Result Counts PlanError) → IsErr r × IsErrAnd r (λ f. f ≡ e) → told_error e ≡ v → Plans v a b r b
needs-refused a b v e (Ok x) p t = absurd (false≢true p.0)
needs-refused a b v e (Err r) p t =
    let same : told_error r ≡ v = ap told_error p.1 ∙ t in
    refused v a b (Err r) same (ap refuses (sym same) ∙ error-refuses r)

-- the tables pass, and the needs decide
pub tables-passed : (a : Night) (b : Places) (r : Result Counts PlanError) (b' : Places) → done ≡ plan_verdict a.dims a.starts a.rows a.perm a.late → Plans (verdict (need_checks (first_list a b))) a b r b' → Plans (early a b) a b r b'
unfolding early
tables-passed a b r b' e p = subst (λ (t : Told). Plans (verdict_after t (need_checks (first_list a b))) a b r b') e p

-- ---- in the first places of longer buffers

-- what stands in the first n places, and beyond
lifted : (w : Told) (n : ℕ) (xs new ys : List ℕ) → n ≤ length xs → ys ≡ after w (take n xs) (new ++ drop n (take n xs)) → ys ++ drop n xs ≡ after w xs (new ++ drop n xs)
lifted w n xs new ys le e = by-case (refuses w) e
  where
    by-case : (t : Bool) → ys ≡ cond t (take n xs) (new ++ drop n (take n xs)) → ys ++ drop n xs ≡ cond t xs (new ++ drop n xs)
    by-case true e = ap (λ (l : List ℕ). l ++ drop n xs) e ∙ take-append-drop n xs
    by-case false e = ap (λ (l : List ℕ). l ++ drop n xs) (e ∙ sym (exact n (take n xs) new (length-take-le n xs le)))

-- the first places of each buffer but L's row table, as long as its need
abbrev pub fronts : Night → Places → Places
fronts a b = record {
  order = take (blocks a) b.order;
  parents = take (blocks a) b.parents;
  l_starts = take (blocks a + 1) b.l_starts;
  l_rows = b.l_rows;
  inverse = take (blocks a) b.inverse;
  sizes = take (blocks a) b.sizes;
  count = take (blocks a) b.count;
  heads = take (blocks a + 1) b.heads;
  into = take (blocks a + 1) b.into;
  stamps = take (blocks a) b.stamps;
  table = take (length a.rows) b.table;
  upper = take (length a.rows) b.upper;
}

-- what stands beyond them joined to c
abbrev pub joined : Night → Places → Places → Places
joined a b c = record {
  order = c.order ++ drop (blocks a) b.order;
  parents = c.parents ++ drop (blocks a) b.parents;
  l_starts = c.l_starts ++ drop (blocks a + 1) b.l_starts;
  l_rows = c.l_rows;
  inverse = c.inverse ++ drop (blocks a) b.inverse;
  sizes = c.sizes ++ drop (blocks a) b.sizes;
  count = c.count ++ drop (blocks a) b.count;
  heads = c.heads ++ drop (blocks a + 1) b.heads;
  into = c.into ++ drop (blocks a + 1) b.into;
  stamps = c.stamps ++ drop (blocks a) b.stamps;
  table = c.table ++ drop (length a.rows) b.table;
  upper = c.upper ++ drop (length a.rows) b.upper;
}

-- each need that is known without the plan is met
record Roomy (a : Night) (b : Places) : Type 0 where
  pub order : blocks a ≤ length b.order
  pub parents : blocks a ≤ length b.parents
  pub l_starts : blocks a + 1 ≤ length b.l_starts
  pub inverse : blocks a ≤ length b.inverse
  pub sizes : blocks a ≤ length b.sizes
  pub count : blocks a ≤ length b.count
  pub heads : blocks a + 1 ≤ length b.heads
  pub into : blocks a + 1 ≤ length b.into
  pub stamps : blocks a ≤ length b.stamps
  pub table : length a.rows ≤ length b.table
  pub upper : length a.rows ≤ length b.upper

roomy : (a : Night) (b : Places) → AllMet (first_list a b) → Roomy a b
roomy a b q = record {
  order = q.0;
  parents = q.1.0;
  l_starts = q.1.1.0;
  inverse = q.1.1.1.1.0;
  sizes = q.1.1.1.1.1.0;
  count = q.1.1.1.1.1.1.0;
  heads = q.1.1.1.1.1.1.1.0;
  into = q.1.1.1.1.1.1.1.1.0;
  stamps = q.1.1.1.1.1.1.1.1.1.0;
  table = q.1.1.1.1.1.1.1.1.1.1.0;
  upper = q.1.1.1.1.1.1.1.1.1.1.1.0;
}

-- a plan in the first places is a plan
pub lengthened : (v : Told) (a : Night) (b : Places) (r : Result Counts PlanError) (c : Places) → v ≡ done → blocks a ≤ 4096 → AllMet (first_list a b) → Plans done a (fronts a b) r c → Plans v a b r (joined a b c)
lengthened v a b r c passed few all q =
    let m = roomy a b all in
    subst (λ (t : Told). Plans t a b r (joined a b c)) (sym passed)
    (record {
      outcome = q.outcome;
      order = lifted (whole done a b) _ _ _ _ m.order q.order;
      parents = tree;
      l_starts = lifted (whole done a b) _ _ (starts_of (links a) (blocks a)) _ m.l_starts q.l_starts;
      l_rows = q.l_rows;
      inverse = lifted done _ _ _ _ m.inverse q.inverse;
      sizes = lifted done _ _ _ _ m.sizes q.sizes;
      count = lifted done _ _ _ _ m.count q.count;
      heads = lifted done _ _ _ _ m.heads q.heads;
      into = lifted done _ _ _ _ m.into q.into;
      stamps = lifted done _ _ _ _ m.stamps q.stamps;
      table = lifted done _ _ _ _ m.table q.table;
      upper = lifted done _ _ _ _ m.upper q.upper;
      liu = λ passes k h. subst (λ (t : List ℕ). Parent (links a) (blocks a) k (decode (get_or t k 0))) (sym (tree ∙ ap (λ (t : Bool). cond t b.parents (parents_of (links a) (blocks a) ++ drop (blocks a) b.parents)) passes)) (liu-parents a (drop (blocks a) b.parents) few k h);
      path = path_rule a;
      products = all_products a;
    })
  where
    tree : c.parents ++ drop (blocks a) b.parents ≡ after (whole done a b) b.parents (parents_of (links a) (blocks a) ++ drop (blocks a) b.parents)
    tree = lifted (whole done a b) _ _ _ _ (roomy a b all).parents q.parents
