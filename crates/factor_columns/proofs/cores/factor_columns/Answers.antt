-- `factor_columns::cores::factor_columns` meets its contract. Assumes nothing.
use Rattle.std.specs.Prelude.{◌≡◌, length, Err}
use mathlib.Core.Path.{refl, ap, ◌∙◌}
use native.Mathlib.Omega.{arith}
use borrow.Author.Rules.{rules}
use Rattle.machine.specs.System.{blocks}
use Rattle.layout.specs.Layout.{laid}
use Rattle.factor_column.proofs.TurnLaws.{nothing_yet}
use Rattle.std.proofs.lemmas.Result.{err_from_is_err_and}
use Rattle.factor_columns.specs.Columns.{refused_at}
use Rattle.factor_columns.proofs.RunLaws.{refuses, mapped}
use Rattle.factor_columns.proofs.cores.factor_columns.Goals as goal

pub loop-j-init : goal.loop-j-init
loop-j-init c =
    let t = c.args.t.now in
    let f = c.args.f.now in
    record {
      inside = omega arith;
      ready = c.requires.ready;
      few = omega arith;
      scratch = record { stamps = (refl, refl); out = (refl, refl); next = (refl, refl); room = record { qj = (refl, refl); qi = (refl, refl); c = (refl, refl) } };
      numbers = record { l_values = (refl, refl); diag = (refl, refl); d = (refl, refl); cache = (refl, refl) };
      done = λ a served. nothing_yet (laid t) t.unit_starts.now t.d_starts.now a f.l_values.now f.diag.now f.d.now f.cache.now;
    }

pub returns-in_err-count-clause-runs : goal.returns-in_err-count-clause-runs
returns-in_err-count-clause-runs c =
    let x = c.args in
    let t = x.t.now in
    let l = c.loop-j in
    let f = c.factor_column-end.new.f in
    let p = err_from_is_err_and c.from_residual.result c.from_residual.ensures.1 in
    let e = mapped (refused_at l.j) c.factor_column-end.result c.map_err.result c.in_err-count.field-0.0 c.map_err.ensures.cases c.in_err-count.was (λ b r q. search rules) in
    rw (p.1 ∙ ap Err (p.2 ∙ e.2))
    (λ a served.
    let n : blocks a ≡ length x.a.now.dims.now = ap length served.fed.by_dims in
    refuses (laid t) t.unit_starts.now t.d_starts.now a l.j e.0 f.l_values.now f.diag.now f.d.now f.cache.now (omega arith)
    (rw e.1 at c.factor_column-end.ensures.turns a served (l.invariant.done a served)))
