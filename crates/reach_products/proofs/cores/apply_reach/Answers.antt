-- `reach_products::cores::apply_reach` meets its contract: the invariant: the first u columns are done (`ReachUpTo`), and their next places have gone
-- one further. Assumes nothing.
use Rattle.std.specs.Prelude.{◌+◌, ℕ, List, length}
use mathlib.Core.Path.{refl, ap, ◌∙◌}
use native.Mathlib.Omega.{arith}
use lib.Seq.{take_all}
use Rattle.tables.specs.Verdict.{at}
use Rattle.column_products.specs.Columns.{plan_of}
use Rattle.column_products.proofs.ColumnLaws.{same-after, places-after}
use Rattle.reach_products.specs.Reach.{advanced, reach_triples}
use Rattle.reach_products.proofs.ReachLaws.{turn, reach-none, reach-more, reach-all}
use Rattle.reach_products.proofs.cores.apply_reach.Goals as goal

pub loop-reaching-init : goal.loop-reaching-init
loop-reaching-init c =
    let x = c.args in
    let f = x.f.now in
    record {
      done = omega arith;
      same = record { qj = (refl, refl); qi = (refl, refl); c = (refl, refl) };
      moved = refl;
      counts = omega arith;
      steps = reach-none (plan_of x.t.now x.f.now.places.now) x.t.now.l_starts.now x.j x.reach.now x.next.now f.l_values.now f.diag.now f.d.now f.cache.now x.w.now.c.now x.count;
    }

pub apply_column-n-requires-clause-places_fit : goal.apply_column-n-requires-clause-places_fit
apply_column-n-requires-clause-places_fit c =
    let x = c.args in
    let l = c.loop-reaching in
    let k = at x.reach.now l.reaching-index in
    let known = turn (plan_of x.t.now x.f.now.places.now) x.t.now.l_starts.now x.j x.reach.now x.next.now _ _ _ _ _ _ l.reaching-index l.n x.count l.next c.requires.reach_fit (omega arith) l.invariant.moved l.invariant.counts c.requires.reach_bound in
    places-after l.invariant.same x.t.now x.f.now.places.now x.j k (at x.next.now k) (at l.next k) _ _ known.there (c.requires.reach_fit.places l.reaching-index (omega arith))

pub apply_column-n-requires-clause-from_lt_end : goal.apply_column-n-requires-clause-from_lt_end
apply_column-n-requires-clause-from_lt_end c =
    let x = c.args in
    let l = c.loop-reaching in
    let known = turn (plan_of x.t.now x.f.now.places.now) x.t.now.l_starts.now x.j x.reach.now x.next.now _ _ _ _ _ _ l.reaching-index l.n x.count l.next c.requires.reach_fit (omega arith) l.invariant.moved l.invariant.counts c.requires.reach_bound in
    (known.from.0, known.from.1, known.room)

pub overflow_add-next : goal.overflow_add-next
overflow_add-next c =
    let x = c.args in
    let l = c.loop-reaching in
    let known = turn (plan_of x.t.now x.f.now.places.now) x.t.now.l_starts.now x.j x.reach.now x.next.now _ _ _ _ _ _ l.reaching-index l.n x.count l.next c.requires.reach_fit (omega arith) l.invariant.moved l.invariant.counts c.requires.reach_bound in
    omega (arith, known.from)

pub loop-reaching-preserved : goal.loop-reaching-preserved
loop-reaching-preserved c =
    let x = c.args in
    let f = x.f.now in
    let p = plan_of x.t.now x.f.now.places.now in
    let l = c.loop-reaching in
    let k = at x.reach.now l.reaching-index in
    let call = c.apply_column-n in
    let known = turn p x.t.now.l_starts.now x.j x.reach.now x.next.now _ _ _ _ _ _ l.reaching-index l.n x.count l.next c.requires.reach_fit (omega arith) l.invariant.moved l.invariant.counts c.requires.reach_bound in
    let made = rw known.there at call.ensures.products in
    record {
      done = omega arith;
      same = same-after l.invariant.same call.ensures.same;
      moved = known.moves;
      counts = call.ensures.products.counts ∙ known.counts;
      steps = reach-more p x.t.now.l_starts.now x.j x.reach.now x.next.now f.l_values.now f.diag.now f.d.now f.cache.now x.w.now.c.now x.count l.reaching-index l.w.c.now call.new.w.c.now l.n call.result (omega arith) l.invariant.steps made;
    }

pub returns-clause-products : goal.returns-clause-products
returns-clause-products c =
    let x = c.args in
    let f = x.f.now in
    let p = plan_of x.t.now x.f.now.places.now in
    let l = c.loop-reaching in
    let e = take_all l.reaching-index x.reach.now (omega arith) in
    record {
      moved = l.invariant.moved ∙ ap (λ (r : List ℕ). advanced r x.next.now) e;
      counts = l.invariant.counts ∙ ap (λ (r : List ℕ). x.count + length (reach_triples p x.t.now.l_starts.now x.next.now x.j r)) e;
      steps = reach-all p x.t.now.l_starts.now x.j x.reach.now x.next.now f.l_values.now f.diag.now f.d.now f.cache.now x.w.now.c.now x.count l.reaching-index l.w.c.now l.n (omega arith) l.invariant.steps;
    }
