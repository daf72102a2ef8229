-- What a verdict that passes gives the core (`ready`, `held`), and the answer where it passes (`answered`). Assumes nothing.
use Rattle.std.specs.Prelude.{◌≡◌, ℕ, ◌+◌, ◌≤◌, Bool, true, false, cond, List, [], ◌∷◌, length, Ok}
use mathlib.Core.Path.{refl, sym, ap, subst, ◌∙◌}
use lib.Ieee.{Float}
use Rattle.graph.specs.Order.{Permutes, moved}
use Rattle.graph.proofs.OrderLaws.{moved-permutes}
use Rattle.refusal.specs.Refusal.{Told, done, refuses, first_of, verdict, after}
use Rattle.refusal.proofs.Laws.{first-refuses, first_passes, both-pass}
use Rattle.needs.specs.Needs.{lent_from, need_checks}
use Rattle.needs.proofs.Laws.{all-met}
use Rattle.tables.specs.Verdict.{areas, past_diagonal}
use Rattle.tables.specs.Sound.{Columns}
use Rattle.order.specs.Order.{sizes_of}
use Rattle.scalars.specs.Scalars.{scalar_starts, scalar_count}
use Rattle.scalars.specs.Bodies.{offsets}
use Rattle.layout.specs.Layout.{tables}
use Rattle.factor_tables.proofs.TableLaws.{sizes-count}
use Rattle.solution.specs.Flat.{HoldsColumns}
use Rattle.solution.proofs.ColumnLaws.{columns-held}
use Rattle.solve_checks.specs.Verdict.{solve_verdict}
use Rattle.solve_checks.specs.Sound.{SolveSound}
use Rattle.solve_checks.proofs.Sound.{solve-sound}
use Rattle.solve_core.specs.Core.{Solvable, SolvedBy, Cleared}
use Rattle.solve_core.proofs.CoreLaws.{laid}
use Rattle.solve_match.specs.Verdict.{match_verdict}
use Rattle.solve_match.proofs.Fresh as match
use Rattle.solve.specs.Solve.{told_error, lent_list, call_verdict, Call, verdict_of, columns_of, HoldsFactor, FreshFactor, Solves}
use Rattle.solve.specs.declared.SolveError.{SolveError}
use Rattle.solve.specs.declared.SolveError.TheVariants as variant

-- ---- the parts of the verdict

-- each error is a refusal
pub error-refuses : (e : SolveError) → refuses (told_error e) ≡ true
error-refuses variant.Blocks = refl
error-refuses (variant.Dimension place) = refl
error-refuses (variant.Starts place) = refl
error-refuses (variant.LStarts place) = refl
error-refuses variant.Stored = refl
error-refuses (variant.Row place) = refl
error-refuses (variant.LRow place) = refl
error-refuses (variant.Parent block) = refl
error-refuses (variant.Order place) = refl
error-refuses (variant.LOrder place) = refl
error-refuses variant.LValues = refl
error-refuses (variant.Permutation place) = refl
error-refuses (variant.Late place) = refl
error-refuses (variant.Short which need) = refl
error-refuses (variant.Mismatch place) = refl
error-refuses (variant.Missing column) = refl
error-refuses (variant.Extra column) = refl
error-refuses (variant.OtherParent column) = refl

-- the first of two verdicts where the one before it refuses, and where it passes
pub stops_first : {t v : Told} (next : Told) → t ≡ v → refuses t ≡ true → t ≡ first_of v next
stops_first {t} {v} next says stops = says ∙ first-refuses v next (ap refuses (sym says) ∙ stops)

pub goes_first : {t v next : Told} → done ≡ v → t ≡ next → t ≡ first_of v next
goes_first {t} {v} {next} passes says = says ∙ first_passes v next (ap refuses (sym passes))

-- the needs that the code works out are those of the promise
pub needs-worked : (dims : List ℕ) (x y scalar_perm sizes starts all : ℕ) → all ≡ scalar_count dims
    → verdict (need_checks (lent_from 0 (x ∷ y ∷ scalar_perm ∷ sizes ∷ starts ∷ []) (0 ∷ all ∷ all ∷ length dims ∷ (length dims + 1) ∷ []))) ≡ verdict (need_checks (lent_list dims x y scalar_perm sizes starts))
needs-worked dims x y scalar_perm sizes starts all e =
    ap (λ (m : ℕ). verdict (need_checks (lent_from 0 (x ∷ y ∷ scalar_perm ∷ sizes ∷ starts ∷ []) (0 ∷ m ∷ m ∷ length dims ∷ (length dims + 1) ∷ [])))) e

-- ---- sound tables

-- the factor's columns by the number of blocks
pub l-columns : (dims starts rows perm late parents l_starts l_rows : List ℕ) (l_values : List Float) → SolveSound dims starts rows perm late parents l_starts l_rows l_values → Columns past_diagonal (length dims) l_starts l_rows
l-columns dims starts rows perm late parents l_starts l_rows l_values s =
    subst (λ (n : ℕ). Columns past_diagonal n l_starts l_rows) (sizes-count dims (moved perm late) (moved-permutes perm late (length dims) s.plan.permutes)) s.factor.columns

module _ (a : Call) where
  -- the three parts of the verdict
  abbrev tables_part : Told
  tables_part = solve_verdict a.dims a.starts a.rows a.perm a.late a.parents a.l_starts a.l_rows a.l_values

  abbrev needs_part : Told
  needs_part = verdict (need_checks (lent_list a.dims (length a.x) (length a.y) (length a.scalar_perm) (length a.sizes) (length a.scalar_starts)))

  abbrev match_part : Told
  match_part = match_verdict a.dims a.starts a.rows a.perm a.late a.order a.parents a.l_starts a.l_rows a.l_offsets (length a.diag) (length a.d) (length a.x)

  parts : refuses (verdict_of a) ≡ false → (refuses tables_part ≡ false) × (refuses needs_part ≡ false) × (refuses match_part ≡ false)
  unfolding call_verdict
  parts e =
      let p = both-pass tables_part (first_of needs_part match_part) e in
      let q = both-pass needs_part match_part p.1 in
      (p.0, q.0, q.1)

  module _ (e : refuses (verdict_of a) ≡ false) where
    sound : SolveSound a.dims a.starts a.rows a.perm a.late a.parents a.l_starts a.l_rows a.l_values
    sound = solve-sound a.dims a.starts a.rows a.perm a.late a.parents a.l_starts a.l_rows a.l_values (parts e).0

    columns : Columns past_diagonal (length a.dims) a.l_starts a.l_rows
    columns = l-columns a.dims a.starts a.rows a.perm a.late a.parents a.l_starts a.l_rows a.l_values sound

    pub is-fresh : FreshFactor a
    is-fresh =
        match.fresh a.dims a.starts a.rows a.perm a.late a.order a.parents a.l_starts a.l_rows a.l_offsets (length a.diag) (length a.d) (length a.x)
        sound.plan.permutes columns (parts e).2

    -- the core may be called
    pub ready : Solvable a.dims a.order a.l_starts a.l_rows a.l_offsets (length a.l_values) (length a.diag) (length a.d)
    ready =
        let o = is-fresh.of_order in
        record {
          blocks = sound.plan.blocks;
          sizes = sound.plan.sizes;
          permutes = subst (Permutes (length a.dims)) (sym o) (moved-permutes a.perm a.late (length a.dims) sound.plan.permutes);
          columns = columns;
          bodies = is-fresh.of_l_offsets ∙ ap (λ (l : List ℕ). offsets (sizes_of a.dims l) a.l_starts a.l_rows) (sym o);
          values = sound.factor.counted ∙ ap (λ (l : List ℕ). areas (sizes_of a.dims l) a.l_starts a.l_rows) (sym o);
          units = is-fresh.of_diag;
          pivots = is-fresh.of_d;
        }

    pub roomy : (length a.x ≡ scalar_count a.dims) × (scalar_count a.dims ≤ length a.y) × (scalar_count a.dims ≤ length a.scalar_perm) × (length a.dims ≤ length a.sizes) × (length a.dims + 1 ≤ length a.scalar_starts)
    roomy =
        let m = all-met (lent_list a.dims (length a.x) (length a.y) (length a.scalar_perm) (length a.sizes) (length a.scalar_starts)) (parts e).1 in
        (is-fresh.of_x, m.1.0, m.1.1.0, m.1.1.1.0, m.1.1.1.1.0)

    -- the lists hold the columns that are read off them
    held : HoldsFactor a (columns_of a)
    held =
        let sizes = sizes_of a.dims a.order in
        let t = tables sizes a.l_starts a.l_rows a.l_offsets in
        subst (λ (n : ℕ). HoldsColumns t a.l_values a.diag a.d n (columns_of a)) (sizes-count a.dims a.order ready.permutes)
        (columns-held t (laid ready sizes (scalar_starts sizes) (scalar_count a.dims) refl refl refl).0.0 a.l_values a.diag a.d)

  -- ---- the answer

  -- a place that is new where the verdict passes
  as-new : {A : Type 0} (old new now : A) → refuses (verdict_of a) ≡ false → now ≡ new → now ≡ after (verdict_of a) old new
  as-new old new now e n = n ∙ sym (ap (λ (t : Bool). cond t old new) e)

  pub answered : (x y : List Float) (scalar_perm sizes starts : List ℕ) → done ≡ verdict_of a
      → SolvedBy a.dims a.order a.l_starts a.l_rows a.l_offsets a.l_values a.diag a.d a.x x → Cleared a.dims a.y a.scalar_perm a.sizes a.scalar_starts y scalar_perm sizes starts
      → Solves a (Ok tt) x y scalar_perm sizes starts
  answered x y scalar_perm sizes starts says solves cleared =
      let e : refuses (verdict_of a) ≡ false = ap refuses (sym says) in
      record {
        outcome = first_passes (verdict_of a) done e;
        solved = as-new a.x _ x e (solves (columns_of a) (held e));
        of_y = as-new a.y _ y e cleared.of_y;
        of_scalar_perm = as-new a.scalar_perm _ scalar_perm e cleared.of_perm;
        of_sizes = as-new a.sizes _ sizes e cleared.of_sizes;
        of_scalar_starts = as-new a.scalar_starts _ starts e cleared.of_starts;
        by_columns = λ _. solves;
        fresh = is-fresh;
      }
