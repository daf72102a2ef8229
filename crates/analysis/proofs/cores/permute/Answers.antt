-- `analysis::cores::permute` meets its contract: the moved order, its inverse, the upper pattern under it, and the dimensions. Assumes nothing.
use Rattle.std.specs.Prelude.{◌≡◌, ℕ, ◌+◌, ◌<◌, List, length, take}
use mathlib.Core.Path.{refl, sym, ap, subst, ◌∙◌}
use native.Mathlib.Omega.{arith}
use Rattle.graph.specs.Links.{linked_in}
use Rattle.graph.specs.Order.{moved, Permutes}
use Rattle.graph.proofs.OrderLaws.{moved-permutes}
use Rattle.tables.specs.Sound.{PlanSound}
use Rattle.order.specs.Order.{Inverse, sizes_of}
use Rattle.pattern.specs.Moved.{Lower, UpperOf}
use Rattle.order.proofs.Laws.{below_at}
use Rattle.analysis.proofs.Laws.{as-lower}
use Rattle.analysis.proofs.cores.permute.Goals as goal

-- the moved order is a permutation of the blocks
order-permutes : (dims starts rows perm late order : List ℕ) → PlanSound dims starts rows perm late → order ≡ moved perm late → Permutes (length dims) order
order-permutes dims starts rows perm late order p e = subst (Permutes (length dims)) (sym e) (moved-permutes perm late (length dims) p.permutes)

pub move_late-requires : goal.move_late-requires
move_late-requires c =
    let e : length c.args.w.now.sizes.now ≡ length c.args.a.now.dims.now = c.requires.room.sizes in
    (subst (λ (m : ℕ). Permutes m c.args.a.now.perm.now) (sym e) c.requires.plan_sound.permutes, c.requires.plan_sound.flags ∙ sym e)

pub invert-requires : goal.invert-requires
invert-requires c =
    let n = length c.args.a.now.dims.now in
    let e : length c.args.w.now.inverse.now ≡ n = c.requires.room.inverse in
    (subst (λ (m : ℕ). Permutes m c.move_late.new.order) (sym e) (order-permutes _ _ _ _ _ _ c.requires.plan_sound c.move_late.ensures), omega (arith, e, c.requires.plan_sound.blocks))

pub upper-entries-requires : goal.upper-entries-requires
upper-entries-requires c =
    let n = length c.args.a.now.dims.now in
    let order = c.move_late.new.order in
    let inverse = c.invert.new.inverse in
    let e : length c.args.w.now.count.now ≡ n = c.requires.room.count in
    let b = c.requires.room in record {
      lower = (
        subst (λ (m : ℕ). Lower m c.args.a.now.starts.now c.args.a.now.rows.now) (sym e) (as-lower _ _ _ _ _ c.requires.plan_sound),
        (order, subst (λ (m : ℕ). Inverse m order inverse) (c.requires.room.inverse ∙ sym e) c.invert.ensures),
      );
      heads_len = (b.heads ∙ ap (λ (m : ℕ). m + 1) (sym e), b.into ∙ ap (λ (m : ℕ). m + 1) (sym e), omega (arith, b.table), omega (arith, b.upper));
    }

pub sizes-requires : goal.sizes-requires
sizes-requires c =
    let call = c.move_late in
    let order = call.new.order in
    let n = length c.args.a.now.dims.now in
    let p = order-permutes _ _ _ _ _ order c.requires.plan_sound call.ensures in
    λ k h. below_at n order p k (subst (λ (m : ℕ). k < m) p.entries h)

pub returns-clause-upper_of : goal.returns-clause-upper_of
returns-clause-upper_of c =
    let call = c.move_late in
    let upper = c.upper-entries in
    let starts = c.args.a.now.starts.now in
    let rows = c.args.a.now.rows.now in
    let out = take upper.result upper.new.out in
    let inverse = subst (λ (m : ℕ). Inverse m call.new.order c.invert.new.inverse) (c.requires.room.inverse ∙ sym c.requires.room.count) c.invert.ensures in (
      subst (λ (l : List ℕ). UpperOf (length c.args.a.now.dims.now) (linked_in starts rows l) upper.new.into out) call.ensures
          (subst (λ (m : ℕ). UpperOf m (linked_in starts rows call.new.order) upper.new.into out) c.requires.room.count (upper.ensures.upper_of call.new.order inverse)),
      upper.ensures.upper_bound.0,
    )

pub returns-clause-sizes_after : goal.returns-clause-sizes_after
returns-clause-sizes_after c = c.sizes.ensures ∙ ap (sizes_of c.args.a.now.dims.now) c.move_late.ensures

pub returns-clause-same : goal.returns-clause-same
returns-clause-same c =
    let call = c.upper-entries.auto in record {
      inverse = (refl, c.invert.auto.inverse);
      sizes = (refl, c.sizes.auto.order ∙ c.move_late.auto.order);
      count = (refl, call.count);
      heads = (refl, call.heads);
      into = (refl, call.into);
      stamps = (refl, refl);
      table = (refl, call.table);
      upper = (refl, call.out);
    }
