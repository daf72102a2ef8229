-- `factor_fit::cores::fit` meets its contract. Assumes nothing.
use Rattle.std.specs.Prelude.{ℕ, length}
use mathlib.Core.Path.{refl, ap, ◌∙◌}
use Rattle.refusal.specs.Refusal.{done}
use Rattle.factor_setup.proofs.SetupLaws.{sound}
use Rattle.factor_setup.specs.Exact.{handed, stored}
use Rattle.factor_core.specs.Factorize.{told_error, lent_in}
use Rattle.factor_core.specs.Written.{factorized_by}
use Rattle.factor_core.specs.Cache.{whole_kept}
use Rattle.factor_core.proofs.ErrorLaws.{error_refuses}
use Rattle.factor_fit.proofs.Laws.{stored_is, numbers-are, few_stored, found_is, least, plan-told, fit-short, fit_made}
use Rattle.factor_fit.proofs.cores.fit.Goals as goal

pub analyze-found-requires-clause-plan_sound : goal.analyze-found-requires-clause-plan_sound
analyze-found-requires-clause-plan_sound c = rw c.night-night.ensures (sound c.args.s.now).plan

pub plan_room-room-requires : goal.plan_room-room-requires
plan_room-room-requires c =
    few_stored (handed c.args.s.now.system) (sound c.args.s.now) _ _ _ _ c.analyze-found.result (rw c.night-night.ensures at c.analyze-found.ensures.ready)

pub make_factor-r-requires-clause-analyzed : goal.make_factor-r-requires-clause-analyzed
make_factor-r-requires-clause-analyzed c =
    let found = c.analyze-found in
    let ready = rw c.night-night.ensures at found.ensures.ready in
    (found_is (handed c.args.s.now.system) _ found.new.w.count.now found.new.w.heads.now found.result ready c.split_at.ensures.front, ready.analyzed.numbers)

pub returns-in-Err-clause-written : goal.returns-in-Err-clause-written
returns-in-Err-clause-written c =
    let a = handed c.args.s.now.system in
    let b = lent_in c.args.o.now c.args.p.now c.args.w.now in
    let found = c.analyze-found in
    let most = c.args.most in
    let have = length c.args.cache.now in
    let s = stored_is a (sound c.args.s.now) _ _ _ _ found.result (rw c.night-night.ensures at found.ensures.ready) in
    let m = numbers-are a (sound c.args.s.now) _ _ _ _ found.result (rw c.night-night.ensures at found.ensures.ready) in
    fit-short (whole_kept done most a b have) a b _ _ (ap told_error c.from.ensures ∙ c.in-Err.ensures.says ∙ plan-told most a m (c.min-kept.ensures ∙ least _ _) b have s) (error_refuses c.from.result)
    refl refl refl refl refl refl refl refl

pub returns-clause-written : goal.returns-clause-written
returns-clause-written c =
    let a = handed c.args.s.now.system in
    let b = lent_in c.args.o.now c.args.p.now c.args.w.now in
    let found = c.analyze-found in
    let made = c.make_factor-r in
    let most = c.args.most in
    let have = length c.args.cache.now in
    let s = stored_is a (sound c.args.s.now) _ _ _ _ found.result (rw c.night-night.ensures at found.ensures.ready) in
    let m = numbers-are a (sound c.args.s.now) _ _ _ _ found.result (rw c.night-night.ensures at found.ensures.ready) in
    fit_made (whole_kept done most a b have) a c.args.o.now made.new.o c.args.p.now c.args.w.now made.new.w c.factorized_by.result made.result made.ensures.makes
    (c.factorized_by.ensures ∙ ap (λ (k : ℕ). factorized_by k found.result.counts.numbers made.result) s ∙ ap (λ (k : ℕ). factorized_by (stored a) k made.result) m)
    (c.in_default.ensures.says ∙ plan-told most a m (c.min-kept.ensures ∙ least _ _) b have s)
