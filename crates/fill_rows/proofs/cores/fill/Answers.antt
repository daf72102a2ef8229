-- `fill_rows::cores::fill` meets its contract. Assumes nothing.
use Rattle.std.specs.Prelude.{ℕ, ◌+◌, ◌-◌, ◌<◌, length, get_or, take, drop, replicate}
use mathlib.Core.Path.{refl, sym, ap, subst, ◌∙◌}
use native.Mathlib.Omega.{arith}
use lib.ListN.{length-set}
use Rattle.buckets.proofs.Lists.{part_slice}
use Rattle.fill_rows.proofs.Columns.{parents-good}
use Rattle.fill_rows.proofs.Onward.{onward-parents, top_up}
use Rattle.fill_rows.proofs.Pass.{heads-length, heads-whole, heads-rise, fill_begins, fill_asks, fill_turns, fill_ends}
use Rattle.fill_rows.proofs.cores.fill.Goals as goal

pub copy-requires : goal.copy-requires
copy-requires c =
    omega (arith, heads-length c.args.t.now.starts.now c.args.t.now.rows.now (length c.args.t.now.parent.now) c.args.l_starts.now (length c.args.l_rows.now) c.requires.laid, c.requires.stamp_len.2)

pub link-requires : goal.link-requires
link-requires c = (
  parents-good c.args.t.now.starts.now c.args.t.now.rows.now (length c.args.t.now.parent.now) c.args.t.now.parent.now c.requires.tree,
  heads-rise c.args.t.now.starts.now c.args.t.now.rows.now (length c.args.t.now.parent.now) c.args.l_starts.now (length c.args.l_rows.now) c.requires.laid,
  c.requires.stamp_len.1,
)

pub loop-j-init : goal.loop-j-init
loop-j-init c =
    let one = c.fill in
    let two = c.copy in
    let three = c.link in
    let n = length c.args.t.now.parent.now in (
      fill_begins c.args.t.now.starts.now c.args.t.now.rows.now n c.args.t.now.parent.now c.args.l_starts.now three.new.onward one.new.self two.new.to c.args.l_rows.now c.requires.tree three.ensures
          (one.ensures.after (λ y h. h) ∙ ap (λ (m : ℕ). replicate m 0) c.requires.stamp_len.0) c.requires.laid (two.ensures ∙ ap (λ (m : ℕ). take m c.args.l_starts.now) c.requires.stamp_len.2),
      refl,
      refl,
    )

pub top-at-requires : goal.top-at-requires
top-at-requires c =
    let v = c.loop-j in
    let g = v.invariant.0 in (
      parents-good c.args.t.now.starts.now c.args.t.now.rows.now (length c.args.t.now.parent.now) c.args.t.now.parent.now g.tree,
      heads-rise c.args.t.now.starts.now c.args.t.now.rows.now (length c.args.t.now.parent.now) c.args.l_starts.now (length v.l_rows) g.laid,
      c.loop-j-test.true,
      g.on.places,
    )

-- the place that bears the mark first is a column's
marked : (c : goal.After-top-at) → c.top-at.result < length c.args.t.now.parent.now
marked c =
    let g = c.loop-j.invariant.0 in
    let parent = c.args.t.now.parent.now in
    subst (λ (x : ℕ). x < length parent) (sym c.top-at.ensures)
    (top_up parent c.args.l_starts.now c.link.new.onward g.tree.pattern.few (parents-good c.args.t.now.starts.now c.args.t.now.rows.now (length parent) parent g.tree) g.on c.loop-j.j c.loop-j-test.true).1

pub overflow_cast-at : goal.overflow_cast-at
overflow_cast-at c = omega (arith, marked c)

pub bounds-stamp-at : goal.bounds-stamp-at
bounds-stamp-at c = omega (arith, marked c, c.loop-j.invariant.0.stamps)

pub store_climbs-requires : goal.store_climbs-requires
store_climbs-requires c =
    let v = c.loop-j in
    let g = v.invariant.0 in
    let taken = c.loop-j-test.true in
    let call = c.top-at in
    let starts = c.args.t.now.starts.now in
    let rows = c.args.t.now.rows.now in
    let parent = c.args.t.now.parent.now in
    let onward = c.link.new.onward in
    let part = take (get_or starts (v.j + 1) 0 - get_or starts v.j 0) (drop (get_or starts v.j 0) rows) in
    let lent = part_slice rows (get_or starts v.j 0) (get_or starts (v.j + 1) 0) in record { parents = (onward-parents parent c.args.l_starts.now onward g.tree.pattern.few (parents-good starts rows (length parent) parent g.tree) g.on, omega (arith, taken, g.on.places), g.laid.small); stamp_len = (length-set v.stamp call.result (v.j + 1) ∙ g.stamps ∙ sym g.on.places, g.held.counts ∙ sym g.on.places); roomy = fill_asks starts rows (length parent) parent c.args.l_starts.now onward v.stamp v.next v.l_rows v.j g taken part lent call.result call.ensures }

pub loop-j-preserved : goal.loop-j-preserved
loop-j-preserved c =
    let v = c.loop-j in
    let g = v.invariant.0 in
    let taken = c.loop-j-test.true in
    let call = c.top-at in
    let stored = c.store_climbs in
    let starts = c.args.t.now.starts.now in
    let rows = c.args.t.now.rows.now in
    let parent = c.args.t.now.parent.now in
    let onward = c.link.new.onward in
    let part = take (get_or starts (v.j + 1) 0 - get_or starts v.j 0) (drop (get_or starts v.j 0) rows) in
    let lent = part_slice rows (get_or starts v.j 0) (get_or starts (v.j + 1) 0) in (
      fill_turns starts rows (length parent) parent c.args.l_starts.now onward v.stamp v.next v.l_rows v.j g taken part lent call.result call.ensures
          stored.new.stamp stored.new.next stored.new.table (stored.auto.stamp ∙ length-set v.stamp call.result (v.j + 1) ∙ g.stamps) stored.auto.table stored.ensures.stamp_after stored.ensures.next_after stored.ensures.table_after,
      refl,
      stored.auto.table ∙ v.invariant.2,
    )

pub copy_columns-requires : goal.copy_columns-requires
copy_columns-requires c =
    let v = c.loop-j in
    let g = v.invariant.0 in
    let starts = c.args.t.now.starts.now in
    let rows = c.args.t.now.rows.now in
    let parent = c.args.t.now.parent.now in (
      parents-good starts rows (length parent) parent g.tree,
      heads-rise starts rows (length parent) c.args.l_starts.now (length v.l_rows) g.laid,
      heads-whole starts rows (length parent) c.args.l_starts.now (length v.l_rows) g.laid,
    )

pub returns : goal.returns
returns c =
    let v = c.loop-j in
    let call = c.copy_columns in
    fill_ends c.args.t.now.starts.now c.args.t.now.rows.now (length c.args.t.now.parent.now) c.args.t.now.parent.now c.args.l_starts.now c.link.new.onward v.stamp v.next v.l_rows v.j v.invariant.0 c.loop-j-test.false
    call.new.l_rows call.auto.l_rows call.ensures
