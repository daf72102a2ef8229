-- `match_rows::cores::lowest_unlinked` meets its contract: the pairs of A's places before u have been passed (`Storing`). Assumes nothing.
use Rattle.std.specs.Prelude.{◌≡◌, ◌+◌, length}
use Prim.Native.Nat.{zero-le}
use native.Mathlib.Omega.{arith}
use Rattle.graph.specs.Links.{rows_in}
use Rattle.tables.specs.Verdict.{at}
use Rattle.match_rows.proofs.FoundLaws.{lowest-of}
use Rattle.match_rows.proofs.HalvedLaws.{rises-of}
use Rattle.match_rows.proofs.PairLaws.{storing-none, storing-next, storing_all}
use mathlib.Core.Path.{refl}
use Rattle.match_rows.proofs.cores.lowest_unlinked.Goals as goal

pub loop-c-init : goal.loop-c-init
loop-c-init c =
    let s = c.requires in
    let a = c.args in
    (refl, zero-le, storing-none a.links.now.starts.now a.links.now.rows.now a.links.now.order.now a.inverse.now (length a.links.now.order.now) s.columns.0 s.columns.1 (rows_in a.l_starts.now a.l_rows.now))

pub loop-u-init : goal.loop-u-init
loop-u-init c =
    let l = c.loop-c in
    (l.invariant.0, refl, omega arith, c.requires.columns.0.ordered.rising l.c (omega arith), l.invariant.2)

pub lower_by-least-requires : goal.lower_by-least-requires
lower_by-least-requires c =
    let s = c.requires in
    let l = c.loop-u in
    let i = s.columns.1 in
    let j = c.loop-c.c in
    let n = i.count in
    record { row_in_bounds = (rw n (s.columns.0.ranged j l.u (omega arith) l.invariant.2 (omega (arith, l.invariant.1))).1, omega (arith, n)); by_index = λ o h. rises-of s.columns_2 _ (i.back o (omega (arith, n))).0 }

pub loop-u-preserved : goal.loop-u-preserved
loop-u-preserved c =
    let s = c.requires in
    let a = c.args in
    let l = c.loop-u in
    let j = c.loop-c.c in
    let e = l.invariant.1 in (
      l.invariant.0,
      e,
      omega arith,
      omega arith,
      rw c.lower_by-least.ensures
          (storing-next a.links.now.starts.now a.links.now.rows.now a.links.now.order.now a.inverse.now (length a.links.now.order.now) s.columns.0 s.columns.1 (rows_in a.l_starts.now a.l_rows.now) j l.u l.least (omega arith) l.invariant.2 (omega (arith, e)) l.invariant.4),
    )

pub loop-c-preserved : goal.loop-c-preserved
loop-c-preserved c =
    let a = c.args in
    let l = c.loop-u in
    let z : l.u ≡ at a.links.now.starts.now (c.loop-c.c + 1) = omega (arith, l.invariant.1) in
    (l.invariant.0, omega arith, rw z at l.invariant.4)

pub returns : goal.returns
returns c =
    let s = c.requires in
    let a = c.args in
    let l = c.loop-c in
    let z : l.c ≡ length a.links.now.order.now = omega (arith, l.invariant.0) in
    rw c.then_some.ensures (lowest-of (storing_all a.links.now.starts.now a.links.now.rows.now a.links.now.order.now a.inverse.now (length a.links.now.order.now) s.columns.0 s.columns.1 (rows_in a.l_starts.now a.l_rows.now) l.least (rw z at l.invariant.2)))
