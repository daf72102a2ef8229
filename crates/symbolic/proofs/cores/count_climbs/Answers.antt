-- `symbolic::cores::count_climbs` meets its contract. The invariants are the records of `Climbs`, and each answer names the law for its way through the code.
-- Assumes nothing.
use Rattle.std.specs.Prelude.{◌≡◌, ℕ, ◌<◌, List, [], ◌∷◌, reverse, length, get_or, set}
use mathlib.Core.Path.{refl, ap, ◌∙◌}
use native.Mathlib.Omega.{arith}
use Rattle.symbolic.proofs.Climbs.{Climbing, Counted, bumps-length, goes_up, climb-stops, climb-roots, scan_begins, scan-skips, scan-climbs, scan-ends, room-here, counted_none, counted-one, count-climb-begins, count-climb-turns}
use Rattle.symbolic.proofs.cores.count_climbs.Goals as goal
use Rattle.symbolic.proofs.cores.count_climbs.Goals.{then-i-j+else-loop-stamp-test, then-i-j+then-loop-stamp-test+then-up, else-i-j}

pub loop-i-init : goal.loop-i-init
loop-i-init c = ([], scan_begins c.args.parent.now c.args.rows.now c.args.j c.args.mark c.args.stamp.now c.requires.stamp_len.0, counted_none c.args.sizes.now c.args.count.now)

-- no count is lost
places : (c : goal.Then-i-j) → length c.loop-i.count ≡ length c.args.parent.now
places c = ap length c.loop-i.invariant.2.counts ∙ bumps-length (reverse c.loop-i.invariant.0) c.args.count.now ∙ c.requires.stamp_len.1

pub loop-stamp-init : goal.loop-stamp-init
loop-stamp-init c =
    count-climb-begins c.args.parent.now c.args.sizes.now c.args.mark c.loop-i.stamp c.loop-i.count c.loop-i.total (get_or c.args.rows.now c.loop-i.i-index 0) (omega arith) c.loop-i.invariant.1.kept.stamps (places c)

-- at the head of the climb: what is found so far, and how the tables tell it
here : (c : goal.After-slice_known-in-loop-stamp-1) →
    (found : List ℕ)
    × Climbing c.args.parent.now c.args.mark (get_or c.args.rows.now c.loop-i.i-index 0) c.loop-i.stamp c.loop-i.invariant.0 c.loop-stamp.at c.loop-stamp.stamp found
    × Counted c.args.sizes.now c.args.count.now found c.loop-stamp.count c.loop-stamp.total
here c = c.loop-stamp.invariant.held c.args.count.now c.loop-i.invariant.0 c.loop-i.invariant.1.kept c.loop-i.invariant.2

-- past the test of the stamp the block's count has room, and the sum is small
room : (c : goal.After-slice_known-in-loop-stamp-1) → (c.loop-stamp.at < length c.loop-stamp.count) × (get_or c.loop-stamp.count c.loop-stamp.at 0 < 4294967295)
room c =
    let h = here c in
    room-here c.args.parent.now c.args.rows.now c.args.j c.args.mark c.args.stamp.now c.loop-i.i-index c.loop-i.stamp c.loop-i.invariant.0 c.loop-i.invariant.1 c.loop-i-test.true c.if-i-j.true
    c.loop-stamp.at c.loop-stamp.stamp h.0 h.1 c.loop-stamp-test.true c.args.count.now c.loop-stamp.count 4294967295 c.requires.roomy h.2.counts

pub overflow_add-count : goal.overflow_add-count
overflow_add-count c = omega (arith, room c)

-- the sum is small
pub overflow_add-total : goal.overflow_add-total
overflow_add-total c =
    let h = c.loop-stamp.invariant.held c.args.count.now c.loop-i.invariant.0 c.loop-i.invariant.1.kept c.loop-i.invariant.2 in
    omega (arith, h.2.small, h.1.kept.few, c.requires.parents.2, c.requires.parents.3.small c.loop-stamp.at)

pub loop-stamp-smaller : goal.loop-stamp-smaller
loop-stamp-smaller c =
    omega (arith, goes_up c.args.parent.now c.loop-stamp.at c.requires.parents.0 c.loop-stamp.invariant.block c.if-up.false)

pub loop-stamp-preserved : goal.loop-stamp-preserved
loop-stamp-preserved c =
    count-climb-turns c.args.parent.now c.args.sizes.now c.args.mark c.loop-i.stamp c.loop-i.count c.loop-i.total (get_or c.args.rows.now c.loop-i.i-index 0) c.loop-stamp.stamp c.loop-stamp.count c.loop-stamp.total c.loop-stamp.at c.loop-stamp.invariant
    (c.requires.parents.3.small c.loop-stamp.at) c.requires.parents.0 c.loop-stamp-test.true c.if-up.false

pub loop-i-preserved : goal.loop-i-preserved
loop-i-preserved c =
    let s = c.loop-i.invariant in
    let row = get_or c.args.rows.now c.loop-i.i-index 0 in
    elim c.if-i-j.branch [
      -- left at a mark
      | then-i-j+else-loop-stamp-test w ↦
          let h = w.loop-stamp.invariant.held c.args.count.now s.0 s.1.kept s.2 in
          rw (w.stamp-is, w.count-is, w.total-is) (
            h.0,
            scan-climbs c.args.parent.now c.args.rows.now c.args.j c.args.mark c.args.stamp.now c.loop-i.i-index c.loop-i.stamp s.0 s.1 c.loop-i-test.true w.if-i-j.true w.loop-stamp.stamp h.0
                (climb-stops c.args.parent.now c.args.mark row c.loop-i.stamp s.0 w.loop-stamp.at w.loop-stamp.stamp h.0 h.1 w.loop-stamp-test.false),
            h.2,
          )
      -- left past a root
      | then-i-j+then-loop-stamp-test+then-up w ↦
          let h = w.loop-stamp.invariant.held c.args.count.now s.0 s.1.kept s.2 in
          rw (w.stamp-is, w.count-is, w.total-is) (
            w.loop-stamp.at ∷ h.0,
            scan-climbs c.args.parent.now c.args.rows.now c.args.j c.args.mark c.args.stamp.now c.loop-i.i-index c.loop-i.stamp s.0 s.1 c.loop-i-test.true w.if-i-j.true (set w.loop-stamp.stamp w.loop-stamp.at c.args.mark) (w.loop-stamp.at ∷ h.0)
                (climb-roots c.args.parent.now c.args.mark row c.loop-i.stamp s.0 w.loop-stamp.at w.loop-stamp.stamp h.0 h.1 w.loop-stamp-test.true w.if-up.true),
            counted-one c.args.sizes.now c.args.count.now h.0 w.loop-stamp.count w.loop-stamp.total w.loop-stamp.at (c.requires.parents.3.small w.loop-stamp.at) h.2,
          )
      -- a row that is not below j
      | else-i-j w ↦ rw (w.stamp-is, w.count-is, w.total-is)
          (s.0, scan-skips c.args.parent.now c.args.rows.now c.args.j c.args.mark c.args.stamp.now c.loop-i.i-index c.loop-i.stamp s.0 s.1 c.loop-i-test.true w.if-i-j.false, s.2)
    ]

pub returns : goal.returns
returns c =
    let s = c.loop-i.invariant in
    let e = scan-ends c.args.parent.now c.args.rows.now c.args.j c.args.mark c.args.stamp.now c.loop-i.i-index c.loop-i.stamp s.0 s.1 c.loop-i-test.false in
    rw e (record { value = (s.2.sums, omega (arith, s.2.small, s.1.kept.few, c.requires.parents.2)); count_after = s.2.counts; stamp_after = refl })
