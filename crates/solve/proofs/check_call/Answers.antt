-- `solve::check_call` meets its contract: where the tables have passed, they are sound. Assumes nothing.
use Rattle.std.specs.Prelude.{length}
use mathlib.Core.Path.{sym, ap}
use Rattle.refusal.specs.Refusal.{refuses}
use Rattle.solve_checks.proofs.Sound.{solve-sound}
use Rattle.solve.proofs.CallLaws.{call-needs}
use Rattle.solve.proofs.Laws.{l-columns}
use Rattle.solve.proofs.check_call.Goals as goal

pub scalar_count-all-requires : goal.scalar_count-all-requires
scalar_count-all-requires c =
    let x = c.args in
    let s = solve-sound x.night.now.dims.now x.night.now.starts.now x.night.now.rows.now x.night.now.perm.now x.night.now.late.now x.factor.now.parents.now x.factor.now.l_starts.now x.factor.now.l_rows.now x.factor.now.l_values.now (ap refuses (sym c.in_ok-check_solve.ensures)) in
    (s.plan.sizes, s.plan.blocks)

pub first_mismatch-requires : goal.first_mismatch-requires
first_mismatch-requires c =
    let x = c.args in
    let s = solve-sound x.night.now.dims.now x.night.now.starts.now x.night.now.rows.now x.night.now.perm.now x.night.now.late.now x.factor.now.parents.now x.factor.now.l_starts.now x.factor.now.l_rows.now x.factor.now.l_values.now (ap refuses (sym c.in_ok-check_solve.ensures)) in
    (s.plan, l-columns x.night.now.dims.now x.night.now.starts.now x.night.now.rows.now x.night.now.perm.now x.night.now.late.now x.factor.now.parents.now x.factor.now.l_starts.now x.factor.now.l_rows.now x.factor.now.l_values.now s)

pub returns-in_err-first_short : goal.returns-in_err-first_short
returns-in_err-first_short c =
    let x = c.args in
    call-needs x.night.now.dims.now x.night.now.starts.now x.night.now.rows.now x.night.now.perm.now x.night.now.late.now x.factor.now.order.now x.factor.now.parents.now x.factor.now.l_starts.now x.factor.now.l_rows.now x.factor.now.l_offsets.now x.factor.now.l_values.now (length x.factor.now.diag.now) (length x.factor.now.d.now) (length x.lent.now.x.now) (length x.lent.now.y.now) (length x.lent.now.scalar_perm.now) (length x.lent.now.sizes.now) (length x.lent.now.scalar_starts.now) _ _ c.from_residual-in_err-first_short.ensures c.in_ok-check_solve.ensures c.scalar_count-all.result c.scalar_count-all.ensures c.in_err-first_short.ensures.says
