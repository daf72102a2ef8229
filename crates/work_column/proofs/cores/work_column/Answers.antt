-- `work_column::cores::work_column` meets its contract. Assumes nothing.
use Rattle.std.specs.Prelude.{length}
use mathlib.Core.Path.{◌∙◌}
use native.Mathlib.Omega.{arith}
use borrow.Author.Rules.{rules}
use Rattle.layout.specs.Layout.{laid}
use Rattle.work_column.proofs.WorkLaws.{asked, gives}
use Rattle.work_column.proofs.cores.work_column.Goals as goal

pub apply_reach-requires : goal.apply_reach-requires
apply_reach-requires c =
    let x = c.args in
    let t = x.t.now in
    let r = c.requires in
    let walk = c.walk-top in
    let a =
    asked (laid t) (length t.tree.now) _ _ r.rows_laid t.into.now t.upper.now r.grown.rows x.j r.placed.1 x.w.now.next.now r.ready.next t.unit_starts.now t.d_starts.now x.f.now.places.now _ _ _ _
    r.diagonal_laid r.placed.0 r.ready.places r.ready.rooms.0 r.ready.rooms.1 walk.new.out walk.result walk.ensures.upper_bound.1 (walk.auto.out ∙ r.ready.out) r.grown.liu.pattern.few x.count r.counted in
    record { reach_fit = a.0; reach_bound = a.1 }

pub returns : goal.returns
returns c =
    let x = c.args in
    let t = x.t.now in
    let f = x.f.now in
    let r = c.requires in
    let walk = c.walk-top in
    let call = c.apply_reach in
    let g =
    gives (laid t) (length t.tree.now) _ _ r.rows_laid t.into.now t.upper.now r.grown.rows x.j r.placed.1 x.w.now.next.now r.ready.next t.unit_starts.now t.d_starts.now x.f.now.places.now _ _ _ _
    r.diagonal_laid r.placed.0 r.ready.places r.ready.rooms.0 r.ready.rooms.1 walk.new.out walk.result walk.ensures.upper_bound.1 (walk.auto.out ∙ r.ready.out) r.grown.liu.pattern.few x.count r.counted
    f.l_values.now f.diag.now f.d.now f.cache.now x.w.now.room.c.now call.new.w.c.now call.result call.new.next call.ensures.products in
    record {
      ready_next = record {
        next = g.0;
        stamps = (walk.auto.stamp ∙ r.ready.stamps.0, walk.ensures.below);
        out = walk.auto.out ∙ r.ready.out;
        places = r.ready.places;
        rooms = (omega (arith, r.ready.rooms, call.ensures.same.qj), omega (arith, r.ready.rooms, call.ensures.same.qi));
      };
      count_after = g.1;
      works = g.2;
      same = search rules;
    }
