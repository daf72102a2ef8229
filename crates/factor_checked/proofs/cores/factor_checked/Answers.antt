-- `factor_checked::cores::factor_checked` meets its contract: the tables are refused, or they pass and the needs decide. Assumes nothing.
use mathlib.Core.Path.{sym, ap}
use Rattle.refusal.specs.Refusal.{refuses}
use Rattle.tables.proofs.Sound.{system-sound}
use Rattle.factor_setup.specs.Exact.{handed}
use Rattle.factor_core.specs.Factorize.{lent_of}
use Rattle.factor_room.proofs.Laws.{same-verdict}
use Rattle.factor_checked.proofs.Laws.{tables-stop, tables-passed, few-handed-in, same-bound}
use Rattle.factor_checked.proofs.cores.factor_checked.Goals as goal

pub returns-in_err-check_system-clause-kept : goal.returns-in_err-check_system-clause-kept
returns-in_err-check_system-clause-kept c = tables-stop _ _ _ _ _ _ c.from_residual.ensures c.in_err-check_system.ensures

pub kept_bound-most-requires : goal.kept_bound-most-requires
kept_bound-most-requires c =
    record { scale_bound = c.requires; late_len_bound = few-handed-in (handed c.args.s.now) (system-sound _ _ _ _ _ _ _ (ap refuses (sym c.in_ok-check_system.ensures))) }

pub invariant_of-passed : goal.invariant_of-passed
invariant_of-passed c = record { accepted = ap refuses (sym c.in_ok-check_system.ensures) }

pub returns-clause-kept : goal.returns-clause-kept
returns-clause-kept c =
    let x = c.args in
    let call = c.lent_core in
    let a = handed x.s.now in
    let b = lent_of x.o.now x.w.now in
    same-verdict _ a b x.cache.now call.result _ _ (tables-passed a b c.in_ok-check_system.ensures) (same-bound a b x.cache.now call.result _ _ c.kept_bound-most.ensures call.ensures.kept)
