-- What the factorization answers where the tables decide, and how many products may be kept. Assumes nothing.
use Rattle.std.specs.Prelude.{◌≡◌, ℕ, ◌≤◌, true, List}
use mathlib.Core.Path.{sym, ap, subst, ◌∙◌}
use native.Mathlib.Omega.{arith}
use lib.Ieee.{Float}
use mathlib.Core.Bool.{false≢true}
use Rattle.std.specs.Prelude.{Ok, Err}
use Rattle.std.specs.Result.{IsErr, IsErrAnd}
use Rattle.checks.specs.Outcome.{told_system_error}
use Rattle.checks.specs.declared.SystemError.{SystemError}
use Rattle.factor_core.proofs.ErrorLaws.{error_refuses, tables_told}
use Rattle.refusal.specs.Refusal.{Told, done, refuses, verdict, verdict_after}
use Rattle.refusal.proofs.Laws.{stays-refused}
use Rattle.needs.specs.Needs.{need_checks}
use Rattle.tables.specs.Verdict.{system_verdict}
use Rattle.tables.specs.Sound.{SystemSound}
use Rattle.tables.proofs.AreaLaws.{areas-le}
use Rattle.machine.specs.System.{System}
use Rattle.factor_core.specs.Factorize.{Factorized, told_error, told, of_tables, Places, first_list, early}
use Rattle.factor_core.specs.Cache.{handed_in, FactorsKept}
use Rattle.factor_room.proofs.Laws.{refused}

-- the tables are refused, and so is the call, in the same words
pub tables_refused : (most : ℕ) (a : System) (b : Places) (cache : List Float) (r : Factorized) → refuses (told r) ≡ true → told r ≡ system_verdict a.dims a.starts a.rows a.values a.perm a.late a.tol → FactorsKept (early a b) most a b cache r b cache
unfolding early
tables_refused most a b cache r stops e =
    let checks = need_checks (first_list a b) in
    let stays : early a b ≡ told r = ap (λ (t : Told). verdict_after t checks) (sym e) ∙ stays-refused (told r) checks stops in
    refused (early a b) most a b cache r (sym stays) (ap refuses stays ∙ stops)

-- where `?` hands the refusal on
pub tables-stop : (most : ℕ) (a : System) (b : Places) (cache : List Float) (e : SystemError) (r : Factorized) → IsErr r × IsErrAnd r (λ f. f ≡ of_tables e)
    → told_system_error e ≡ system_verdict a.dims a.starts a.rows a.values a.perm a.late a.tol → FactorsKept (early a b) most a b cache r b cache
tables-stop most a b cache e (Ok x) p t = absurd (false≢true p.0)
tables-stop most a b cache e (Err f) p t = tables_refused most a b cache (Err f) (error_refuses f) (ap told_error p.1 ∙ tables_told e ∙ t)

-- the tables pass, and the needs decide
pub tables-passed : (a : System) (b : Places) → done ≡ system_verdict a.dims a.starts a.rows a.values a.perm a.late a.tol → verdict (need_checks (first_list a b)) ≡ early a b
unfolding early
tables-passed a b e = ap (λ (t : Told). verdict_after t (need_checks (first_list a b))) e

-- what is handed in is not much, where the tables pass
pub few-handed-in : (a : System) → SystemSound a.dims a.starts a.rows a.values a.perm a.late a.tol → handed_in a ≤ 33554432
few-handed-in a s =
    let blocks = s.plan.blocks in
    let starts = s.plan.columns.ordered.entries in
    let stored = s.plan.stored in
    let values = s.counted in
    let areas = areas-le a.dims a.rows s.plan.sizes a.starts in
    let perm = s.plan.permutes.entries in
    let late = s.plan.flags in
    omega arith

-- the bound as it was worked out
pub same-bound : {v : Told} {most most' : ℕ} (a : System) (b : Places) (cache : List Float) (r : Factorized) (b' : Places) (cache' : List Float) → most ≡ most' → FactorsKept v most a b cache r b' cache' → FactorsKept v most' a b cache r b' cache'
same-bound {v} a b cache r b' cache' e q = subst (λ (n : ℕ). FactorsKept v n a b cache r b' cache') e q
