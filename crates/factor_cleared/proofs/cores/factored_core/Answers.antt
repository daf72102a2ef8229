-- `factor_cleared::cores::factored_core` meets its contract. Assumes nothing.
use Rattle.std.specs.Prelude.{length}
use Rattle.factor_setup.proofs.SetupLaws.{sound}
use Rattle.factor_setup.specs.Exact.{handed}
use Rattle.factor_core.specs.Factorize.{lent_in}
use Rattle.scratch.proofs.Laws.{zero_of}
use Rattle.factor_cleared.proofs.CoreLaws.{noughts-of, kept}
use Rattle.factor_cleared.proofs.cores.factored_core.Goals as goal

pub returns-clause-kept : goal.returns-clause-kept
returns-clause-kept c =
    let fit = c.fit-r in
    let zero = c.clear_plan.ensures.cleared in
    let work = c.clear_work.ensures in
    kept c.args.most (handed c.args.s.now.system) (sound c.args.s.now) (lent_in c.args.o.now c.args.p.now c.args.w.now) (lent_in fit.new.o fit.new.p fit.new.w) (lent_in fit.new.o c.clear_plan.new.w c.clear_work.new.w) c.args.cache.now fit.new.cache fit.result c.requires.exact fit.ensures.written
    (record {
      column = noughts-of {n = length c.args.w.now.column.now} work.column_after fit.ensures.work.column.1;
      inverse = zero_of {n = length c.args.p.now.inverse.now} zero.inverse fit.ensures.scratch.inverse.1;
      sizes = zero_of {n = length c.args.p.now.sizes.now} zero.sizes fit.ensures.scratch.sizes.1;
      count = zero_of {n = length c.args.p.now.count.now} zero.count fit.ensures.scratch.count.1;
      heads = zero_of {n = length c.args.p.now.heads.now} zero.heads fit.ensures.scratch.heads.1;
      into = zero_of {n = length c.args.p.now.into.now} zero.into fit.ensures.scratch.into.1;
      stamps = zero_of {n = length c.args.p.now.stamps.now} zero.stamps fit.ensures.scratch.stamps.1;
      table = zero_of {n = length c.args.p.now.table.now} zero.table fit.ensures.scratch.table.1;
      upper = zero_of {n = length c.args.p.now.upper.now} zero.upper fit.ensures.scratch.upper.1;
      bodies = zero_of {n = length c.args.w.now.bodies.now} work.bodies_after fit.ensures.work.bodies.1;
      unit_starts = zero_of {n = length c.args.w.now.unit_starts.now} work.unit_starts_after fit.ensures.work.unit_starts.1;
      d_starts = zero_of {n = length c.args.w.now.d_starts.now} work.d_starts_after fit.ensures.work.d_starts.1;
      places = zero_of {n = length c.args.w.now.places.now} work.places_after fit.ensures.work.places.1;
    })
    fit.ensures.cache_after
