-- `match_rows::cores::link_children` meets its contract: the lists of the columns before c are whole. Assumes nothing.
use Rattle.std.specs.Prelude.{◌≡◌, ◌+◌, ◌<◌}
use Prim.Native.Nat.{zero-le}
use native.Mathlib.Omega.{arith}
use Rattle.match_rows.proofs.HalvedLaws.{rises-of, heads-at, heads-none}
use Rattle.match_rows.proofs.ChildLaws.{families-none, families_skip, families_next}
use Rattle.tables.specs.Verdict.{at}
use Rattle.match_rows.proofs.cores.link_children.Goals as goal
use Rattle.match_rows.proofs.cores.link_children.Goals.{then-from-end, else-from-end}

pub loop-c-init : goal.loop-c-init
loop-c-init c =
    let s = c.requires in
    (zero-le, families-none _ _ s.head_value.0 s.head_value.1)

pub loop-c-preserved : goal.loop-c-preserved
loop-c-preserved c =
    let l = c.loop-c in
    let s = c.requires in
    let a = c.args in
    let rises = rises-of s.n_bound.1 l.c (omega arith) in
    let starts = a.l_starts.now in
    elim c.if-from-end.branch [
      | then-from-end w ↦
          let some : at starts l.c < at starts (l.c + 1) = w.if-from-end.true in
          let below = (s.n_bound.1.ranged l.c (at starts l.c) (omega arith) (omega arith) some).1 in
          rw (w.head-is, w.sibling-is) (omega arith, (families_next l.invariant.1 (at a.l_rows.now (at starts l.c)) (omega (arith, below, s.n_bound.0)) (omega (arith, s.n_bound.0)) (λ k. heads-at rises k some)))
      | else-from-end w ↦ rw (w.head-is, w.sibling-is) (omega arith, families_skip l.invariant.1 (λ k. heads-none rises k w.if-from-end.false))
    ]

pub returns : goal.returns
returns c =
    let l = c.loop-c in
    let z : l.c ≡ c.args.n = omega arith in
    rw z at l.invariant.1
