-- `reach::cores::scan` meets its contract. The invariants are the records of `Turns`, and each answer names the law for its way through the code.
-- Assumes nothing.
use Rattle.std.proofs.Common.{ℕ, ◌-◌, List, ◌++◌, get_or, drop, set, sym, refl, ap, ◌∙◌, arith, length-drop, take-append-drop}
use Rattle.reach.proofs.Turns.{place, climb-turns, climb-stops, climb-roots, scan_begins, scan-climbs, scan-skips, scan-ends}
use Rattle.reach.proofs.cores.scan.Goals as goal
use Rattle.reach.proofs.cores.scan.Goals.{then-i-j+then-stamp-at, then-i-j+else-stamp-at+then-up, else-i-j}

pub loop-row-init : goal.loop-row-init
loop-row-init c = scan_begins c.args.parent.now c.args.rows.now c.args.j c.args.mark c.args.stamp.now c.args.out.now c.requires.stamp_len.0 c.requires.stamp_len.1

pub overflow_sub-top : goal.overflow_sub-top
overflow_sub-top c = omega (arith, place _ _ c.loop-row.out _ _ _ _ c.climb.invariant.kept c.climb.invariant.block c.if-stamp-at.false)

pub climb-smaller : goal.climb-smaller
climb-smaller c = omega (arith, place _ _ c.loop-row.out _ _ _ _ c.climb.invariant.kept c.climb.invariant.block c.if-stamp-at.false)

pub climb-preserved : goal.climb-preserved
climb-preserved c =
    climb-turns c.args.parent.now c.args.mark c.loop-row.stamp c.loop-row.out c.loop-row.top (get_or c.args.rows.now c.loop-row.row-index 0) c.climb.stamp c.climb.out c.climb.top c.climb.i c.climb.invariant c.if-stamp-at.false c.requires.parents.0 c.if-up.false

pub loop-row-preserved : goal.loop-row-preserved
loop-row-preserved c =
    let s = c.loop-row.invariant in
    let row = get_or c.args.rows.now c.loop-row.row-index 0 in
    elim c.if-i-j.branch [
      -- left at a mark
      | then-i-j+then-stamp-at w ↦ rw (w.stamp-is, w.out-is, w.top-is)
          (scan-climbs c.args.parent.now c.args.rows.now c.args.j c.args.mark c.args.stamp.now c.args.out.now c.loop-row.stamp c.loop-row.out c.loop-row.top c.loop-row.row-index s c.loop-row-test.true w.climb.stamp w.climb.out w.climb.top w.if-i-j.true
          (climb-stops c.args.parent.now c.args.mark c.loop-row.stamp c.loop-row.out c.loop-row.top row w.climb.stamp w.climb.out w.climb.top w.climb.i w.climb.invariant w.if-stamp-at.true))
      -- left past a root
      | then-i-j+else-stamp-at+then-up w ↦ rw (w.stamp-is, w.out-is, w.top-is)
          (scan-climbs c.args.parent.now c.args.rows.now c.args.j c.args.mark c.args.stamp.now c.args.out.now c.loop-row.stamp c.loop-row.out c.loop-row.top c.loop-row.row-index s c.loop-row-test.true (set w.climb.stamp w.climb.i c.args.mark) (set w.climb.out (w.climb.top - 1) w.climb.i) (w.climb.top - 1) w.if-i-j.true
          (climb-roots c.args.parent.now c.args.mark c.loop-row.stamp c.loop-row.out c.loop-row.top row w.climb.stamp w.climb.out w.climb.top w.climb.i w.climb.invariant w.if-stamp-at.false w.if-up.true))
      -- a row that is not below j
      | else-i-j w ↦ rw (w.stamp-is, w.out-is, w.top-is)
          (scan-skips c.args.parent.now c.args.rows.now c.args.j c.args.mark c.args.stamp.now c.args.out.now c.loop-row.stamp c.loop-row.out c.loop-row.top c.loop-row.row-index s c.loop-row-test.true w.if-i-j.false)
    ]

pub returns : goal.returns
returns c =
    let s = c.loop-row.invariant in
    let e = scan-ends c.args.parent.now c.args.rows.now c.args.j c.args.mark c.args.stamp.now c.args.out.now c.loop-row.stamp c.loop-row.out c.loop-row.top c.loop-row.row-index s c.loop-row-test.false in rw e (record {
      stamp_value = omega (arith, length-drop c.loop-row.top c.loop-row.out, s.kept.within, s.kept.places);
      out_after = sym (take-append-drop c.loop-row.top c.loop-row.out) ∙ ap (λ (l : List ℕ). l ++ drop c.loop-row.top c.loop-row.out) s.kept.below;
      stamp_after = refl;
    })
