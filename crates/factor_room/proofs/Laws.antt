-- What the factorization answers where the needs decide. Assumes nothing.
use Rattle.std.specs.Prelude.{◌≡◌, ℕ, ◌+◌, Bool, true, cond, List, [], ◌∷◌, length}
use mathlib.Core.Bool.{false≢true}
use mathlib.Core.Path.{sym, ap, subst, ◌∙◌}
use lib.Ieee.{Float}
use Rattle.std.specs.Prelude.{Ok, Err}
use Rattle.std.specs.Result.{IsErr, IsErrAnd}
use Rattle.factor_core.proofs.ErrorLaws.{error_refuses}
use Rattle.refusal.specs.Refusal.{Told, refuses, verdict, after}
use Rattle.refusal.proofs.Laws.{stays-refused, first-refuses}
use Rattle.needs.specs.Needs.{lent_from, need_checks}
use Rattle.needs.specs.Needs.{told_error as told_short}
use Rattle.needs.specs.declared.ShortBuffer.{ShortBuffer}
use Rattle.scalars.specs.Scalars.{scalar_count}
use Rattle.machine.specs.System.{System, blocks}
use Rattle.layout.specs.Layout.{units_need, work_need}
use Rattle.factor_core.specs.Factorize.{Factorized, told_error, told, of_short, Places, lengths_of, first_list, FactorsBy}
use Rattle.factor_core.specs.Cache.{kept_list, whole_kept, FactorsKept}

-- ---- refused before the plan: nothing is changed

-- a place is as it was where the verdict refuses
unchanged : {A : Type 0} (v : Told) (old new : A) → refuses v ≡ true → old ≡ after v old new
unchanged v old new stops = sym (ap (λ (t : Bool). cond t old new) stops)

-- the outcome is the verdict, and so is the one before the numbers
refused-by : (v w : Told) (a : System) (b : Places) (r : Factorized) → told r ≡ v → refuses v ≡ true → w ≡ v → FactorsBy v w a b r b
refused-by v w a b r e stops stays =
    let also : refuses w ≡ true = ap refuses stays ∙ stops in
    record {
      outcome = e ∙ (sym stays ∙ first-refuses w _ also);
      order = unchanged w b.order _ also;
      parents = unchanged w b.parents _ also;
      l_starts = unchanged w b.l_starts _ also;
      l_rows = unchanged w b.l_rows _ also;
      l_offsets = unchanged w b.l_offsets _ also;
      l_values = unchanged w b.l_values _ also;
      diag = unchanged w b.diag _ also;
      d = unchanged w b.d _ also;
      column = unchanged v b.column _ stops;
      inverse = unchanged v b.inverse _ stops;
      sizes = unchanged v b.sizes _ stops;
      count = unchanged v b.count _ stops;
      heads = unchanged v b.heads _ stops;
      into = unchanged v b.into _ stops;
      stamps = unchanged v b.stamps _ stops;
      table = unchanged v b.table _ stops;
      upper = unchanged v b.upper _ stops;
      bodies = unchanged v b.bodies _ stops;
      unit_starts = unchanged v b.unit_starts _ stops;
      d_starts = unchanged v b.d_starts _ stops;
      places = unchanged v b.places _ stops;
      liu = λ passes. absurd (false≢true (sym passes ∙ also));
      demand3 = λ c is. absurd (false≢true (sym (ap (λ (t : Factorized). refuses (told t)) is) ∙ (ap refuses e ∙ stops)));
    }

-- the cache too is as it was
pub refused : (v : Told) (most : ℕ) (a : System) (b : Places) (cache : List Float) (r : Factorized) → told r ≡ v → refuses v ≡ true → FactorsKept v most a b cache r b cache
unfolding whole_kept
refused v most a b cache r e stops =
    record {
      factors = refused-by v (whole_kept v most a b (length cache)) a b r e stops (stays-refused v (need_checks (kept_list most a b (length cache))) stops);
      cache = unchanged v cache _ stops;
    }

-- a buffer is short, and so says the call
pub needs-refused : (most : ℕ) (a : System) (b : Places) (cache : List Float) (v : Told) (e : ShortBuffer) (r : Factorized) → IsErr r × IsErrAnd r (λ f. f ≡ of_short e) → told_short e ≡ v → FactorsKept v most a b cache r b cache
needs-refused most a b cache v e (Ok x) p t = absurd (false≢true p.0)
needs-refused most a b cache v e (Err r) p t =
    let same : told_error r ≡ v = ap told_error p.1 ∙ t in
    refused v most a b cache (Err r) same (ap refuses (sym same) ∙ error_refuses r)

-- where two verdicts are one, so is what is promised under them
pub same-verdict : (most : ℕ) (a : System) (b : Places) (cache : List Float) (r : Factorized) (c : Places) (cache' : List Float) {v w : Told} → v ≡ w → FactorsKept v most a b cache r c cache' → FactorsKept w most a b cache r c cache'
same-verdict most a b cache r c cache' e q = subst (λ (t : Told). FactorsKept t most a b cache r c cache') e q

-- ---- the needs that the code works out are those of the promise

-- the needs by the numbers of the unit factors, of d and of the working column
abbrev worked_needs : System → (units scalars work : ℕ) → List ℕ
worked_needs a units scalars work =
    blocks a ∷ blocks a ∷ (blocks a + 1) ∷ 0 ∷ 0 ∷ 0
    ∷ units ∷ scalars ∷ work ∷ blocks a ∷ blocks a ∷ blocks a
    ∷ (blocks a + 1) ∷ (blocks a + 1) ∷ blocks a ∷ length a.rows ∷ length a.rows ∷ (length a.rows + 1)
    ∷ (blocks a + 1) ∷ (blocks a + 1) ∷ blocks a ∷ []

abbrev worked_verdict : System → (units scalars work : ℕ) → Places → Told
worked_verdict a units scalars work b = verdict (need_checks (lent_from 0 (lengths_of b) (worked_needs a units scalars work)))

pub first-worked : (a : System) (b : Places) {units scalars work : ℕ} → units ≡ units_need a.dims → scalars ≡ scalar_count a.dims → work ≡ work_need a.dims
    → worked_verdict a units scalars work b ≡ verdict (need_checks (first_list a b))
first-worked a b {units} {scalars} {work} u s w =
    ap (λ (x : ℕ). worked_verdict a x scalars work b) u
    ∙ (ap (λ (x : ℕ). worked_verdict a (units_need a.dims) x work b) s
    ∙ ap (λ (x : ℕ). worked_verdict a (units_need a.dims) (scalar_count a.dims) x b) w)
