-- `factor_lent::cores::lend_scratch` meets its contract: the factorization in the first places of the scratch. Assumes nothing.
use Rattle.std.specs.Prelude.{◌++◌}
use mathlib.Core.Path.{ap}
use borrow.Author.Rules.{rules}
use Rattle.factor_setup.proofs.SetupLaws.{sound}
use Rattle.factor_setup.specs.Exact.{handed}
use Rattle.factor_core.specs.Factorize.{lent, lent_in}
use Rattle.factor_lent.proofs.Laws.{all-joined}
use Rattle.factor_lent.proofs.cores.lend_scratch.Goals as goal

pub work_numbers-work-requires : goal.work_numbers-work-requires
work_numbers-work-requires c = let p = (sound c.args.s.now).plan in (p.sizes, p.blocks)

pub returns-clause-kept : goal.returns-clause-kept
returns-clause-kept c =
    let x = c.args in
    let work = c.work_numbers-work in
    let call = c.factored_core in
    let b = lent x.o.now.order.now x.o.now.parents.now x.o.now.l_starts.now x.o.now.l_rows.now x.o.now.l_offsets.now x.o.now.l_values.now x.o.now.diag.now x.o.now.d.now x.column.now x.inverse.now x.sizes.now x.count.now x.heads.now x.into.now x.stamps.now x.table.now x.upper.now x.bodies.now x.unit_starts.now x.d_starts.now x.places.now in
    all-joined x.most (handed x.s.now.system) work.result b (lent_in call.new.o call.new.p call.new.w) call.result x.cache.now call.new.cache work.ensures
    (record { front = c.split_at_mut-column.result.0.now; beyond = c.split_at_mut-column.result.1.now; whole = c.split_at_mut-column.ensures.value; long = c.split_at_mut-column.ensures.front_len; kept = c.split_at_mut-column.ensures.back; left = ap (λ l. l ++ c.split_at_mut-column.result.1.now) (search rules) })
    (record { front = c.split_at_mut-inverse.result.0.now; beyond = c.split_at_mut-inverse.result.1.now; whole = c.split_at_mut-inverse.ensures.value; long = c.split_at_mut-inverse.ensures.front_len; kept = c.split_at_mut-inverse.ensures.back; left = ap (λ l. l ++ c.split_at_mut-inverse.result.1.now) (search rules) })
    (record { front = c.split_at_mut-sizes.result.0.now; beyond = c.split_at_mut-sizes.result.1.now; whole = c.split_at_mut-sizes.ensures.value; long = c.split_at_mut-sizes.ensures.front_len; kept = c.split_at_mut-sizes.ensures.back; left = ap (λ l. l ++ c.split_at_mut-sizes.result.1.now) (search rules) })
    (record { front = c.split_at_mut-count.result.0.now; beyond = c.split_at_mut-count.result.1.now; whole = c.split_at_mut-count.ensures.value; long = c.split_at_mut-count.ensures.front_len; kept = c.split_at_mut-count.ensures.back; left = ap (λ l. l ++ c.split_at_mut-count.result.1.now) (search rules) })
    (record { front = c.split_at_mut-heads.result.0.now; beyond = c.split_at_mut-heads.result.1.now; whole = c.split_at_mut-heads.ensures.value; long = c.split_at_mut-heads.ensures.front_len; kept = c.split_at_mut-heads.ensures.back; left = ap (λ l. l ++ c.split_at_mut-heads.result.1.now) (search rules) })
    (record { front = c.split_at_mut-into.result.0.now; beyond = c.split_at_mut-into.result.1.now; whole = c.split_at_mut-into.ensures.value; long = c.split_at_mut-into.ensures.front_len; kept = c.split_at_mut-into.ensures.back; left = ap (λ l. l ++ c.split_at_mut-into.result.1.now) (search rules) })
    (record { front = c.split_at_mut-stamps.result.0.now; beyond = c.split_at_mut-stamps.result.1.now; whole = c.split_at_mut-stamps.ensures.value; long = c.split_at_mut-stamps.ensures.front_len; kept = c.split_at_mut-stamps.ensures.back; left = ap (λ l. l ++ c.split_at_mut-stamps.result.1.now) (search rules) })
    (record { front = c.split_at_mut-table.result.0.now; beyond = c.split_at_mut-table.result.1.now; whole = c.split_at_mut-table.ensures.value; long = c.split_at_mut-table.ensures.front_len; kept = c.split_at_mut-table.ensures.back; left = ap (λ l. l ++ c.split_at_mut-table.result.1.now) (search rules) })
    (record { front = c.split_at_mut-upper.result.0.now; beyond = c.split_at_mut-upper.result.1.now; whole = c.split_at_mut-upper.ensures.value; long = c.split_at_mut-upper.ensures.front_len; kept = c.split_at_mut-upper.ensures.back; left = ap (λ l. l ++ c.split_at_mut-upper.result.1.now) (search rules) })
    (record { front = c.split_at_mut-bodies.result.0.now; beyond = c.split_at_mut-bodies.result.1.now; whole = c.split_at_mut-bodies.ensures.value; long = c.split_at_mut-bodies.ensures.front_len; kept = c.split_at_mut-bodies.ensures.back; left = ap (λ l. l ++ c.split_at_mut-bodies.result.1.now) (search rules) })
    (record { front = c.split_at_mut-unit_starts.result.0.now; beyond = c.split_at_mut-unit_starts.result.1.now; whole = c.split_at_mut-unit_starts.ensures.value; long = c.split_at_mut-unit_starts.ensures.front_len; kept = c.split_at_mut-unit_starts.ensures.back; left = ap (λ l. l ++ c.split_at_mut-unit_starts.result.1.now) (search rules) })
    (record { front = c.split_at_mut-d_starts.result.0.now; beyond = c.split_at_mut-d_starts.result.1.now; whole = c.split_at_mut-d_starts.ensures.value; long = c.split_at_mut-d_starts.ensures.front_len; kept = c.split_at_mut-d_starts.ensures.back; left = ap (λ l. l ++ c.split_at_mut-d_starts.result.1.now) (search rules) })
    (record { front = c.split_at_mut-places.result.0.now; beyond = c.split_at_mut-places.result.1.now; whole = c.split_at_mut-places.ensures.value; long = c.split_at_mut-places.ensures.front_len; kept = c.split_at_mut-places.ensures.back; left = ap (λ l. l ++ c.split_at_mut-places.result.1.now) (search rules) })
    call.ensures.kept
