-- `fill_rows::cores::copy_columns` meets its contract. Assumes nothing.
use Rattle.std.specs.Prelude.{◌-◌, get_or}
use mathlib.Core.Path.{refl, sym, ◌∙◌}
use native.Mathlib.Omega.{arith}
use lib.ListN.{length-set}
use Rattle.fill_rows.proofs.Copies.{copy-begins, copy-skips, copy-turns, copy-ends, parent_above, copy_places, copy-first}
use Rattle.fill_rows.proofs.cores.copy_columns.Goals as goal

pub loop-k-init : goal.loop-k-init
loop-k-init c = (copy-begins c.args.parent.now c.args.l_starts.now c.args.l_rows.now, refl)

pub bounds-l_rows-to : goal.bounds-l_rows-to
bounds-l_rows-to c = copy-first c.args.parent.now c.args.l_starts.now c.args.l_rows.now c.loop-k.l_rows c.loop-k.k (c.loop-k.k - 1) (omega arith) (omega arith) (sym c.repeats_parent.ensures ∙ c.if-repeats_parent.true) c.requires.0 c.requires.1 (c.requires.2 ∙ sym c.loop-k.invariant.1)

pub bounds-l_starts-p : goal.bounds-l_starts-p
bounds-l_starts-p c =
    let above = parent_above c.args.parent.now c.args.l_starts.now c.args.l_rows.now c.loop-k.l_rows c.loop-k.k (c.loop-k.k - 1) (omega arith) (omega arith) (sym c.repeats_parent.ensures ∙ c.if-repeats_parent.true) c.requires.0 c.requires.1 (c.requires.2 ∙ sym c.loop-k.invariant.1) in
    omega (arith, above.1, c.requires.1.count)

pub bounds-l_starts-p-then-repeats_parent : goal.bounds-l_starts-p-then-repeats_parent
bounds-l_starts-p-then-repeats_parent c =
    let above = parent_above c.args.parent.now c.args.l_starts.now c.args.l_rows.now c.loop-k.l_rows c.loop-k.k (c.loop-k.k - 1) (omega arith) (omega arith) (sym c.repeats_parent.ensures ∙ c.if-repeats_parent.true) c.requires.0 c.requires.1 (c.requires.2 ∙ sym c.loop-k.invariant.1) in
    omega (arith, above.1, c.requires.1.count)

pub copy_down-requires : goal.copy_down-requires
copy_down-requires c =
    let v = c.loop-k in
    let d = copy_places c.args.parent.now c.args.l_starts.now c.args.l_rows.now c.loop-k.l_rows c.loop-k.k (c.loop-k.k - 1) (omega arith) (omega arith) (sym c.repeats_parent.ensures ∙ c.if-repeats_parent.true) c.requires.0 c.requires.1 (c.requires.2 ∙ sym c.loop-k.invariant.1) in
    (d.0, omega (arith, d.1, length-set v.l_rows (get_or c.args.l_starts.now (v.k - 1) 0) (get_or c.args.parent.now (v.k - 1) 0)), d.2)

pub loop-k-preserved-then-repeats_parent : goal.loop-k-preserved-then-repeats_parent
loop-k-preserved-then-repeats_parent c =
    let v = c.loop-k in
    let call = c.copy_down in (
      copy-turns c.args.parent.now c.args.l_starts.now c.args.l_rows.now c.loop-k.l_rows c.loop-k.k (c.loop-k.k - 1) (omega arith) (omega arith) (sym c.repeats_parent.ensures ∙ c.if-repeats_parent.true) c.requires.0 c.requires.1 (c.requires.2 ∙ sym c.loop-k.invariant.1)
          call.new.table call.ensures.by_index call.ensures.by_index_2 v.invariant.0,
      call.auto.table ∙ length-set v.l_rows (get_or c.args.l_starts.now (v.k - 1) 0) (get_or c.args.parent.now (v.k - 1) 0) ∙ v.invariant.1,
    )

pub loop-k-preserved : goal.loop-k-preserved
loop-k-preserved c =
    let v = c.loop-k in (
      copy-skips c.args.parent.now c.args.l_starts.now c.args.l_rows.now v.l_rows v.k (v.k - 1) (omega arith) (sym c.repeats_parent.ensures ∙ c.if-repeats_parent.false) v.invariant.0,
      v.invariant.1,
    )

pub returns : goal.returns
returns c = copy-ends c.args.parent.now c.args.l_starts.now c.args.l_rows.now c.loop-k.l_rows c.loop-k.k c.loop-k.invariant.0 c.loop-k-test.false
