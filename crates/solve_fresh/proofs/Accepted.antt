-- A solve with a system's own factor is accepted.
--     plan-accepted     with the tables of its plan
--     factor-accepted   with what an accepted factorization leaves
-- Assumes nothing.
use Prim.Native.Nat.{ℕ, ◌+◌, zero-le}
use mathlib.Core.Bool.{Bool, false, cond}
use mathlib.Core.List.{List, ◌++◌}
use mathlib.Core.Path.{◌≡◌, refl, sym, ap, subst, ◌∙◌}
use lib.Ieee.{Float}
use lib.ListN.{length, take}
use lib.Seq.{take-append_seam, length-take-le}
use Rattle.graph.specs.Links.{rows_in, linked_of}
use Rattle.graph.specs.Order.{moved}
use Rattle.graph.proofs.OrderLaws.{moved-permutes}
use Rattle.graph.proofs.Whole.{linked-symm}
use Rattle.refusal.specs.Refusal.{Told, done, refuses, verdict, after}
use Rattle.refusal.proofs.Laws.{all_pass, both-pass}
use Rattle.needs.specs.Needs.{need_checks}
use Rattle.tables.specs.Verdict.{past_diagonal, areas, plan_checks, plan_verdict, system_checks, system_verdict}
use Rattle.tables.specs.Sound.{Columns}
use Rattle.tables.proofs.CheckLaws.{values-go}
use Rattle.tables.proofs.Sound.{plan-sound}
use Rattle.elimination_tree.specs.Tree.{parents_of}
use Rattle.elimination_tree.proofs.Links.{parents-length}
use Rattle.order.specs.Order.{sizes_of}
use Rattle.scalars.specs.Scalars.{scalar_count}
use Rattle.scalars.specs.Bodies.{offsets}
use Rattle.scalars.proofs.BodyLaws.{length-offsets}
use Rattle.machine.specs.System.{System, blocks, links, order}
use Rattle.machine.specs.Machine.{run}
use Rattle.machine.proofs.RunLaws.{links-symm}
use Rattle.layout.specs.Layout.{units_need}
use Rattle.layout.proofs.PlanLaws.{plan_columns, plan-stored, plan_numbers}
use Rattle.factor_tables.proofs.TableLaws.{sizes-count}
use Rattle.factor_setup.specs.Exact as exact
use Rattle.factor_core.specs.Factorize.{Places, first_list, plan_list, early, whole, answered}
use Rattle.solve_checks.specs.Verdict.{tree_check, solve_checks, solve_verdict}
use Rattle.solve_match.specs.Fresh.{Fresh}
use Rattle.solve_match.proofs.Fresh.{fresh_passes}
use Rattle.solve.specs.Solve.{lent_list, call_verdict}
use Rattle.solve_fresh.specs.Accepted.{PlanAccepted, FactorAccepted}
use Rattle.solve_fresh.proofs.PassLaws.{first-pass, pass_all, pass-before, needs-pass}
use Rattle.solve_fresh.proofs.ColumnLaws.{starts-pass, rows_pass, order-pass}
use Rattle.solve_fresh.proofs.TreeLaws.{parents-pass}

-- ---- with the tables of its plan

module _ (dims starts rows perm late order parents l_starts l_rows l_offsets : List ℕ) (diag d x : ℕ) (f : Fresh dims starts rows perm late order parents l_starts l_rows l_offsets diag d x) where
  columns : Columns past_diagonal (length dims) l_starts l_rows
  columns = rw (f.of_l_starts, f.of_l_rows) (plan_columns (linked_of starts rows perm late) (length dims) (linked-symm (rows_in starts rows) (moved perm late)))

  tree-passes : refuses (plan_verdict dims starts rows perm late) ≡ false → tree_check (length dims) parents ≡ done
  tree-passes passes =
      rw f.of_parents
      (parents-pass (linked_of starts rows perm late) (length dims) (linked-symm (rows_in starts rows) (moved perm late)) (plan-sound dims starts rows perm late passes).blocks)

  tables-pass : (l_values : List Float) → refuses (plan_verdict dims starts rows perm late) ≡ false → length l_values ≡ areas (sizes_of dims (moved perm late)) l_starts l_rows
      → refuses (solve_verdict dims starts rows perm late parents l_starts l_rows l_values) ≡ false
  unfolding plan_verdict solve_verdict
  tables-pass l_values passes counted =
      let p = all_pass (plan_checks dims starts rows perm late) passes in
      let q = p.1.1.1 in
      pass_all (solve_checks dims starts rows perm late parents l_starts l_rows l_values)
      (p.0, (p.1.0, (p.1.1.0, (ap refuses (starts-pass columns), (q.0, (q.1.0, (ap refuses (rows_pass columns), (ap refuses (tree-passes passes), (q.1.1.0, (ap refuses (order-pass columns), (q.1.1.1.0, (q.1.1.1.1.0, (ap refuses (values-go (sizes_of dims (moved perm late)) l_starts l_rows (length l_values) (areas (sizes_of dims (moved perm late)) l_starts l_rows) refl counted), tt)))))))))))))

pub plan-accepted : PlanAccepted
unfolding call_verdict
plan-accepted dims starts rows perm late order parents l_starts l_rows l_offsets l_values diag d x y scalar_perm sizes scalar_starts passes f counted enough =
    let lent = lent_list dims x y scalar_perm sizes scalar_starts in
    first-pass (solve_verdict dims starts rows perm late parents l_starts l_rows l_values) _ (tables-pass dims starts rows perm late order parents l_starts l_rows l_offsets diag d x f l_values passes counted)
    (first-pass (verdict (need_checks lent)) _ (pass_all (need_checks lent) (needs-pass lent (zero-le, (enough.of_y, (enough.of_scalar_perm, (enough.of_sizes, (enough.of_scalar_starts, tt)))))))
    (ap refuses (fresh_passes dims starts rows perm late order parents l_starts l_rows l_offsets diag d x (plan-sound dims starts rows perm late passes).permutes f)))

-- ---- with what an accepted factorization leaves

-- a list in its first places
cut : {A : Type 0} (n : ℕ) (l rest : List A) → length l ≡ n → take n (l ++ rest) ≡ l
cut n l rest e = subst (λ (m : ℕ). take m (l ++ rest) ≡ l) e (take-append_seam l rest)

-- a place that is written where the verdict passes
made : {A : Type 0} (v : Told) → refuses v ≡ false → (was new : A) → after v was new ≡ new
made v passes was new = ap (λ (t : Bool). cond t was new) passes

module _ (a : System) (lent : Places) where
  -- nothing is refused before the numbers
  early-passes : refuses (whole (early a lent) a lent) ≡ false → refuses (early a lent) ≡ false
  unfolding whole
  early-passes e = pass-before (early a lent) (need_checks (plan_list a lent)) e

  system-passes : refuses (early a lent) ≡ false → refuses (system_verdict a.dims a.starts a.rows a.values a.perm a.late a.tol) ≡ false
  unfolding early
  system-passes e = pass-before (system_verdict a.dims a.starts a.rows a.values a.perm a.late a.tol) (need_checks (first_list a lent)) e

  plan-passes : refuses (system_verdict a.dims a.starts a.rows a.values a.perm a.late a.tol) ≡ false → refuses (plan_verdict a.dims a.starts a.rows a.perm a.late) ≡ false
  unfolding system_verdict plan_verdict
  plan-passes e =
      let p = all_pass (system_checks a.dims a.starts a.rows a.values a.perm a.late a.tol) e in
      let q = p.1.1.1.1.1 in
      pass_all (plan_checks a.dims a.starts a.rows a.perm a.late) (p.0, (p.1.0, (p.1.1.0, (p.1.1.1.0, (p.1.1.1.1.0, (q.0, (q.1.1.0, (q.1.1.1.0, tt))))))))

pub factor-accepted : FactorAccepted
factor-accepted a lent r left factors accepts room y scalar_perm sizes scalar_starts enough =
    let w = whole (early a lent) a lent in
    let n = blocks a in
    let passes : refuses w ≡ false = (both-pass w (answered a (run a)) (ap refuses (sym factors.outcome) ∙ accepts)).0 in
    let plan = plan-passes a lent (system-passes a lent (early-passes a lent passes)) in
    let permutes = moved-permutes a.perm a.late n (plan-sound a.dims a.starts a.rows a.perm a.late plan).permutes in
    let symm = links-symm a in
    let of_order = ap (take n) (factors.order ∙ made w passes lent.order _) ∙ cut n (order a) _ permutes.entries in
    let of_parents = ap (take n) (factors.parents ∙ made w passes lent.parents _) ∙ cut n (parents_of (links a) n) _ (parents-length (links a) n symm) in
    let of_starts = ap (take (n + 1)) (factors.l_starts ∙ made w passes lent.l_starts _) ∙ cut (n + 1) (exact.l_starts a) _ (plan_columns (links a) n symm).ordered.entries in
    let rows_long = plan-stored (links a) n symm in
    let of_rows = ap (take (exact.stored a)) (factors.l_rows ∙ made w passes lent.l_rows _) ∙ cut (exact.stored a) (exact.l_rows a) _ rows_long in
    let of_offsets = ap (take (exact.stored a + 1)) (factors.l_offsets ∙ made w passes lent.l_offsets _) ∙ cut (exact.stored a + 1) (exact.l_offsets a) _ (length-offsets (exact.sizes a) (exact.l_starts a) (exact.l_rows a) ∙ ap (λ (m : ℕ). m + 1) rows_long) in
    let long = length-take-le (exact.numbers a) left.l_values room ∙ sym (plan_numbers (links a) n symm (exact.sizes a) (sizes-count a.dims (order a) permutes)) in
    plan-accepted a.dims a.starts a.rows a.perm a.late (take n left.order) (take n left.parents) (take (n + 1) left.l_starts) (take (exact.stored a) left.l_rows) (take (exact.stored a + 1) left.l_offsets) (take (exact.numbers a) left.l_values) (units_need a.dims) (scalar_count a.dims) (scalar_count a.dims) y scalar_perm sizes scalar_starts
    plan
    (record {
      of_order = of_order;
      of_parents = of_parents;
      of_l_starts = of_starts;
      of_l_rows = of_rows;
      of_l_offsets = of_offsets ∙ sym (ap (λ (l : List ℕ). offsets (exact.sizes a) l (take (exact.stored a) left.l_rows)) of_starts ∙ ap (offsets (exact.sizes a) (exact.l_starts a)) of_rows);
      of_diag = refl;
      of_d = refl;
      of_x = refl;
    })
    (long ∙ sym (ap (λ (l : List ℕ). areas (exact.sizes a) l (take (exact.stored a) left.l_rows)) of_starts ∙ ap (areas (exact.sizes a) (exact.l_starts a)) of_rows))
    enough
