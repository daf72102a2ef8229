-- The analysis, and the outputs where the needs that only the plan shows are met or not.
--     stored_is, numbers-are, few_stored, found_is    the analysis
--     least, kept-is, plan-told                       the needs that only the plan shows
--     fit-short, fit_made                             the outputs
-- Assumes nothing.
use Rattle.std.specs.Prelude.{◌≡◌, ℕ, ◌<◌, ◌≤◌, min, Bool, true, cond, List, length, take, Result}
use mathlib.Core.Path.{sym, ap, ◌∙◌}
use native.Mathlib.Omega.{arith}
use mathlib.Core.Logic.{⊎_elim}
use Rattle.tables.proofs.SearchLaws.{lt-or-ge}
use Rattle.refusal.specs.Refusal.{Told, done, refuses, first_of, verdict, after}
use Rattle.refusal.proofs.Laws.{first-refuses}
use Rattle.needs.specs.Needs.{need_checks}
use Rattle.tables.specs.Sound.{SystemSound}
use Rattle.analysis.specs.Plan as analysis
use Rattle.analysis.specs.declared.cores.Analysis.{Analysis}
use Rattle.machine.specs.System.{System, blocks, links}
use Rattle.machine.specs.Machine.{run}
use Rattle.machine.proofs.RunLaws.{links-symm}
use Rattle.layout.proofs.PlanLaws.{plan_few, plan-stored}
use Rattle.factor_columns.specs.declared.cores.ColumnError.{ColumnError}
use Rattle.scratch.specs.declared.Scratch.{Scratch}
use Rattle.factor_setup.specs.Exact.{stored, numbers}
use Rattle.factor_setup.specs.Lent.{UpperTree, Found}
use Rattle.factor_setup.specs.declared.Outputs.{Outputs}
use Rattle.factor_setup.specs.declared.Work.{Work}
use Rattle.factor_made.specs.Made.{Makes}
use Rattle.factor_core.specs.Factorize.{Factorized, told, Places, lent, lent_in, answered}
use Rattle.factor_core.specs.Written.{factorized_by, plan_needs, Written}
use Rattle.factor_core.specs.Cache.{lesser, cache_need, whole_kept}
use Rattle.factor_core.proofs.CacheLaws.{lesser-first, lesser-second}
use Rattle.factor_core.proofs.FitLaws.{told-needs}
use Rattle.factor_core.proofs.StopLaws.{answer-is}

-- ---- the analysis

module _ (a : System) (sound : SystemSound a.dims a.starts a.rows a.values a.perm a.late a.tol) (count heads into upper : List ℕ) (r : Analysis)
    (g : analysis.Ready a.dims a.starts a.rows a.perm a.late count heads into upper r) where
  pub stored_is : r.counts.stored ≡ stored a
  stored_is = g.analyzed.stored

  pub numbers-are : r.counts.numbers ≡ numbers a
  numbers-are = g.analyzed.numbers

  pub few_stored : r.counts.stored < 16777216
  few_stored =
      let e = stored_is in
      let s = plan-stored (links a) (blocks a) (links-symm a) in
      let f = plan_few (links a) (blocks a) (links-symm a) sound.plan.blocks in
      omega arith

-- what the tables and the numbers are made from
pub found_is : (a : System) (t : UpperTree) (count heads : List ℕ) (r : Analysis) → analysis.Ready a.dims a.starts a.rows a.perm a.late count heads t.starts.now t.rows.now r → t.parent.now ≡ take (blocks a) heads
    → Found a t count r
found_is a t count heads r g tree =
    record {
      analyzed = record { listed = g.listed; parents = tree ∙ g.analyzed.parents; counted = g.analyzed.counted };
      inside = g.inside;
      stored = g.analyzed.stored;
    }

-- ---- the needs that only the plan shows

-- the lesser of two, as std has it
pub least : (m n : ℕ) → min m n ≡ lesser m n
least m n =
    ⊎_elim (λ (l : m < n). let e = lesser-first m n l in omega arith) (λ (l : n ≤ m). let e = lesser-second m n l in omega arith) (lt-or-ge m n)

-- with what L has and what is kept as they are defined
module _ (most : ℕ) (a : System) {m k : ℕ} (em : m ≡ numbers a) (ek : k ≡ lesser m most) where
  pub kept-is : k ≡ cache_need most a
  kept-is = ek ∙ ap (λ (n : ℕ). lesser n most) em

  pub plan-told : (b : Places) (have : ℕ) {s : ℕ} → s ≡ stored a
      → verdict (need_checks (plan_needs (length b.l_offsets) (length b.l_values) have (length b.l_rows) s m k)) ≡ whole_kept done most a b have
  unfolding whole_kept
  plan-told b have {s} es =
      ap (λ (n : ℕ). verdict (need_checks (plan_needs (length b.l_offsets) (length b.l_values) have (length b.l_rows) s m n))) ek
      ∙ told-needs (length b.l_offsets) (length b.l_values) have (length b.l_rows) most es em

-- ---- the outputs

module _ (w : Told) (a : System) (b b' : Places) where
  -- a need is not met: nothing is changed
  pub fit-short : (r : Factorized) → told r ≡ w → refuses (told r) ≡ true
      → b'.order ≡ b.order → b'.parents ≡ b.parents → b'.l_starts ≡ b.l_starts → b'.l_rows ≡ b.l_rows → b'.l_offsets ≡ b.l_offsets
      → b'.l_values ≡ b.l_values → b'.diag ≡ b.diag → b'.d ≡ b.d → Written w a b r b'
  fit-short r e stops o p s l f x u d =
      record {
        outcome = e ∙ first-refuses w _ also;
        order = o ∙ kept b.order _;
        parents = p ∙ kept b.parents _;
        l_starts = s ∙ kept b.l_starts _;
        l_rows = l ∙ kept b.l_rows _;
        l_offsets = f ∙ kept b.l_offsets _;
        l_values = x ∙ kept b.l_values _;
        diag = u ∙ kept b.diag _;
        d = d ∙ kept b.d _;
      }
    where
      also : refuses w ≡ true
      also = sym (ap refuses e) ∙ stops

      kept : {A : Type 0} (old new : A) → old ≡ after w old new
      kept old new = sym (ap (λ (z : Bool). cond z old new) also)

-- all needs are met: the factor's
pub fit_made : (w : Told) (a : System) (o o' : Outputs) (p : Scratch) (x x' : Work) {inverse sizes count heads into stamps table upper : List ℕ} (r : Factorized) (y : Result ℕ ColumnError) → Makes a y o o'
    → r ≡ factorized_by (stored a) (numbers a) y → done ≡ w
    → Written w a (lent_in o p x) r (lent o'.order.now o'.parents.now o'.l_starts.now o'.l_rows.now o'.l_offsets.now o'.l_values.now o'.diag.now o'.d.now x'.column.now
    inverse sizes count heads into stamps table upper x'.bodies.now x'.unit_starts.now x'.d_starts.now x'.places.now)
fit_made w a o o' p x x' r y m is passes =
    record {
      outcome = ap told is ∙ answer-is a y m.outcome ∙ ap (λ (t : Told). first_of t (answered a (run a))) passes;
      order = m.by_order ∙ now o.order.now _;
      parents = m.by_parents ∙ now o.parents.now _;
      l_starts = m.by_starts ∙ now o.l_starts.now _;
      l_rows = m.by_rows ∙ now o.l_rows.now _;
      l_offsets = m.by_offsets ∙ now o.l_offsets.now _;
      l_values = m.by_values ∙ now o.l_values.now _;
      diag = m.by_diag ∙ now o.diag.now _;
      d = m.by_d ∙ now o.d.now _;
    }
  where
    now : {A : Type 0} (old new : A) → new ≡ after w old new
    now old new = ap (λ (t : Told). after t old new) passes
