-- `factor_outputs::cores::lend` meets its contract: the factorization in the first places of the outputs. Assumes nothing.
use Rattle.std.specs.Prelude.{◌++◌}
use mathlib.Core.Path.{ap, ◌∙◌}
use borrow.Author.Rules.{rules}
use Rattle.factor_setup.proofs.SetupLaws.{sound}
use Rattle.factor_setup.specs.Exact.{handed}
use Rattle.factor_core.specs.Factorize.{lent}
use Rattle.factor_outputs.proofs.Laws.{outputs-joined}
use Rattle.factor_outputs.proofs.cores.lend.Goals as goal

pub unit_numbers-units-requires : goal.unit_numbers-units-requires
unit_numbers-units-requires c = let p = (sound c.args.s.now).plan in (p.sizes, p.blocks)

pub scalar_count-scalars-requires : goal.scalar_count-scalars-requires
scalar_count-scalars-requires c = let p = (sound c.args.s.now).plan in (p.sizes, p.blocks)

pub returns-clause-kept : goal.returns-clause-kept
returns-clause-kept c =
    let x = c.args in
    let units = c.unit_numbers-units in
    let scalars = c.scalar_count-scalars in
    let call = c.lend_scratch in
    let same = call.ensures.same in
    let b = lent x.order.now x.parents.now x.l_starts.now x.l_rows.now x.l_offsets.now x.l_values.now x.diag.now x.d.now x.w.now.column.now x.w.now.inverse.now x.w.now.sizes.now x.w.now.count.now x.w.now.heads.now x.w.now.into.now x.w.now.stamps.now x.w.now.table.now x.w.now.upper.now x.w.now.bodies.now x.w.now.unit_starts.now x.w.now.d_starts.now x.w.now.places.now in
    let after = lent call.new.o.order.now call.new.o.parents.now call.new.o.l_starts.now call.new.o.l_rows.now call.new.o.l_offsets.now call.new.o.l_values.now call.new.o.diag.now call.new.o.d.now call.new.column call.new.inverse call.new.sizes call.new.count call.new.heads call.new.into call.new.stamps call.new.table call.new.upper call.new.bodies call.new.unit_starts call.new.d_starts call.new.places in
    outputs-joined x.most (handed x.s.now.system) units.result scalars.result b after call.result x.cache.now call.new.cache units.ensures scalars.ensures
    (same.parents.1 ∙ c.split_at_mut-parents.ensures.front_len) (same.l_starts.1 ∙ c.split_at_mut-l_starts.ensures.front_len)
    (record { front = c.split_at_mut-order.result.0.now; beyond = c.split_at_mut-order.result.1.now; whole = c.split_at_mut-order.ensures.value; long = c.split_at_mut-order.ensures.front_len; kept = c.split_at_mut-order.ensures.back; left = ap (λ l. l ++ c.split_at_mut-order.result.1.now) (search rules) })
    (record { front = c.split_at_mut-parents.result.0.now; beyond = c.split_at_mut-parents.result.1.now; whole = c.split_at_mut-parents.ensures.value; long = c.split_at_mut-parents.ensures.front_len; kept = c.split_at_mut-parents.ensures.back; left = ap (λ l. l ++ c.split_at_mut-parents.result.1.now) (search rules) })
    (record { front = c.split_at_mut-l_starts.result.0.now; beyond = c.split_at_mut-l_starts.result.1.now; whole = c.split_at_mut-l_starts.ensures.value; long = c.split_at_mut-l_starts.ensures.front_len; kept = c.split_at_mut-l_starts.ensures.back; left = ap (λ l. l ++ c.split_at_mut-l_starts.result.1.now) (search rules) })
    (search rules)
    (search rules)
    (search rules)
    (record { front = c.split_at_mut-diag.result.0.now; beyond = c.split_at_mut-diag.result.1.now; whole = c.split_at_mut-diag.ensures.value; long = c.split_at_mut-diag.ensures.front_len; kept = c.split_at_mut-diag.ensures.back; left = ap (λ l. l ++ c.split_at_mut-diag.result.1.now) (search rules) })
    (record { front = c.split_at_mut-d.result.0.now; beyond = c.split_at_mut-d.result.1.now; whole = c.split_at_mut-d.ensures.value; long = c.split_at_mut-d.ensures.front_len; kept = c.split_at_mut-d.ensures.back; left = ap (λ l. l ++ c.split_at_mut-d.result.1.now) (search rules) })
    call.ensures.kept
