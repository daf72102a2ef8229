-- `row_products::cores::apply_rows` meets its contract. Assumes nothing.
use mathlib.Core.Path.{refl, ◌∙◌}
use native.Mathlib.Omega.{arith}
use Rattle.tables.specs.Verdict.{at}
use Rattle.row_products.proofs.RowLaws.{up_none, up_more, up_all}
use Rattle.row_products.proofs.cores.apply_rows.Goals as goal

pub loop-t-init : goal.loop-t-init
loop-t-init c =
    let x = c.args in
    let held = x.held.now in
    let p = held.pair in
    record {
      done = omega arith;
      room = refl;
      long = refl;
      counts = omega arith;
      steps = up_none (at p.sizes.now) (at x.places.now) p.j p.k x.r.now.rows.now x.r.now.offsets.now held.values.now held.cache.now held.unit.now x.qj.now x.c.now x.count;
    }

pub loop-t-preserved : goal.loop-t-preserved
loop-t-preserved c =
    let x = c.args in
    let held = x.held.now in
    let p = held.pair in
    let l = c.loop-t in
    let row = c.apply_row-n in
    record {
      done = omega arith;
      room = row.auto.qi ∙ l.invariant.room;
      long = row.auto.c ∙ l.invariant.long;
      counts = row.ensures.counts ∙ omega arith;
      steps =
          up_more (at p.sizes.now) (at x.places.now) p.j p.k x.r.now.rows.now x.r.now.offsets.now held.values.now held.cache.now held.unit.now x.qj.now x.c.now x.count l.t l.c _ l.n _
          (omega arith) l.invariant.steps row.ensures;
    }

pub returns : goal.returns
returns c =
    let x = c.args in
    let held = x.held.now in
    let p = held.pair in
    let l = c.loop-t in
    record {
      counts = omega arith;
      steps =
          up_all (at p.sizes.now) (at x.places.now) p.j p.k x.r.now.rows.now x.r.now.offsets.now held.values.now held.cache.now held.unit.now x.qj.now x.c.now x.count l.t l.c l.n (omega arith) l.invariant.steps;
    }
