-- `symbolic::cores::store_climbs` meets its contract. The invariants are the records of `Climbs`, and each answer names the law for its way through the code.
-- Assumes nothing.
use Rattle.std.specs.Prelude.{◌≡◌, ◌<◌, [], ◌∷◌, reverse, length, get_or, set}
use mathlib.Core.Path.{refl, ap, ◌∙◌}
use native.Mathlib.Omega.{arith}
use Rattle.symbolic.proofs.Climbs.{bumps-length, stores-length, goes_up, climb-stops, climb-roots, scan_begins, scan-skips, scan-climbs, scan-ends, room-here, stored-none, stored_one, store-climb-begins, store-climb-turns}
use Rattle.symbolic.proofs.cores.store_climbs.Goals as goal
use Rattle.symbolic.proofs.cores.store_climbs.Goals.{then-i-j+else-loop-stamp-test, then-i-j+then-loop-stamp-test+then-up, else-i-j}

pub loop-i-init : goal.loop-i-init
loop-i-init c = ([], scan_begins c.args.parent.now c.args.rows.now c.args.j c.args.mark c.args.stamp.now c.requires.stamp_len.0, stored-none c.args.j c.args.next.now c.args.table.now)

-- no bucket is lost, and no place
places : (c : goal.Then-i-j) → length c.loop-i.next ≡ length c.args.parent.now
places c = ap length c.loop-i.invariant.2.counts ∙ bumps-length (reverse c.loop-i.invariant.0) c.args.next.now ∙ c.requires.stamp_len.1

pub loop-stamp-init : goal.loop-stamp-init
loop-stamp-init c =
    store-climb-begins c.args.parent.now c.args.j c.args.mark c.loop-i.stamp c.loop-i.next c.loop-i.table (get_or c.args.rows.now c.loop-i.i-index 0) (omega arith) c.loop-i.invariant.1.kept.stamps (places c)

size : (c : goal.After-slice_known-in-loop-stamp-1) → length c.loop-i.table ≡ length c.args.table.now
size c = ap length c.loop-i.invariant.2.entries ∙ stores-length c.args.j (reverse c.loop-i.invariant.0) c.args.next.now c.args.table.now

-- past the test of the stamp the block's bucket has a free place
room : (c : goal.After-slice_known-in-loop-stamp-1) → (get_or c.loop-stamp.next c.loop-stamp.at 0 < length c.loop-stamp.table) × (length c.loop-stamp.table < 4294967296)
room c =
    let s = c.loop-i.invariant in
    let h = c.loop-stamp.invariant.held c.args.next.now c.args.table.now s.0 s.1.kept s.2 in
    let r = room-here c.args.parent.now c.args.rows.now c.args.j c.args.mark c.args.stamp.now c.loop-i.i-index c.loop-i.stamp s.0 s.1 c.loop-i-test.true c.if-i-j.true
    c.loop-stamp.at c.loop-stamp.stamp h.0 h.1 c.loop-stamp-test.true c.args.next.now c.loop-stamp.next (length c.args.table.now) c.requires.roomy h.2.counts in
    let l = c.loop-stamp.invariant.size in
    let z = size c in
    (omega (arith, r.1), omega (arith, c.requires.parents.2))

pub bounds-table-free : goal.bounds-table-free
bounds-table-free c = omega (arith, room c)

pub overflow_add-next : goal.overflow_add-next
overflow_add-next c = omega (arith, room c)

pub loop-stamp-smaller : goal.loop-stamp-smaller
loop-stamp-smaller c =
    omega (arith, goes_up c.args.parent.now c.loop-stamp.at c.requires.parents.0 c.loop-stamp.invariant.block c.if-up.false)

pub loop-stamp-preserved : goal.loop-stamp-preserved
loop-stamp-preserved c =
    store-climb-turns c.args.parent.now c.args.j c.args.mark c.loop-i.stamp c.loop-i.next c.loop-i.table (get_or c.args.rows.now c.loop-i.i-index 0) c.loop-stamp.stamp c.loop-stamp.next c.loop-stamp.table c.loop-stamp.at c.loop-stamp.invariant
    c.requires.parents.0 c.loop-stamp-test.true c.if-up.false

pub loop-i-preserved : goal.loop-i-preserved
loop-i-preserved c =
    let s = c.loop-i.invariant in
    let row = get_or c.args.rows.now c.loop-i.i-index 0 in
    elim c.if-i-j.branch [
      -- left at a mark
      | then-i-j+else-loop-stamp-test w ↦
          let h = w.loop-stamp.invariant.held c.args.next.now c.args.table.now s.0 s.1.kept s.2 in
          rw (w.stamp-is, w.next-is, w.table-is) (
            h.0,
            scan-climbs c.args.parent.now c.args.rows.now c.args.j c.args.mark c.args.stamp.now c.loop-i.i-index c.loop-i.stamp s.0 s.1 c.loop-i-test.true w.if-i-j.true w.loop-stamp.stamp h.0
                (climb-stops c.args.parent.now c.args.mark row c.loop-i.stamp s.0 w.loop-stamp.at w.loop-stamp.stamp h.0 h.1 w.loop-stamp-test.false),
            h.2,
          )
      -- left past a root
      | then-i-j+then-loop-stamp-test+then-up w ↦
          let h = w.loop-stamp.invariant.held c.args.next.now c.args.table.now s.0 s.1.kept s.2 in
          rw (w.stamp-is, w.next-is, w.table-is) (
            w.loop-stamp.at ∷ h.0,
            scan-climbs c.args.parent.now c.args.rows.now c.args.j c.args.mark c.args.stamp.now c.loop-i.i-index c.loop-i.stamp s.0 s.1 c.loop-i-test.true w.if-i-j.true (set w.loop-stamp.stamp w.loop-stamp.at c.args.mark) (w.loop-stamp.at ∷ h.0)
                (climb-roots c.args.parent.now c.args.mark row c.loop-i.stamp s.0 w.loop-stamp.at w.loop-stamp.stamp h.0 h.1 w.loop-stamp-test.true w.if-up.true),
            stored_one c.args.j c.args.next.now c.args.table.now h.0 w.loop-stamp.next w.loop-stamp.table w.loop-stamp.at h.2,
          )
      -- a row that is not below j
      | else-i-j w ↦ rw (w.stamp-is, w.next-is, w.table-is)
          (s.0, scan-skips c.args.parent.now c.args.rows.now c.args.j c.args.mark c.args.stamp.now c.loop-i.i-index c.loop-i.stamp s.0 s.1 c.loop-i-test.true w.if-i-j.false, s.2)
    ]

pub returns : goal.returns
returns c =
    let s = c.loop-i.invariant in
    let e = scan-ends c.args.parent.now c.args.rows.now c.args.j c.args.mark c.args.stamp.now c.loop-i.i-index c.loop-i.stamp s.0 s.1 c.loop-i-test.false in
    rw e (record { next_after = s.2.counts; table_after = s.2.entries; stamp_after = refl })
