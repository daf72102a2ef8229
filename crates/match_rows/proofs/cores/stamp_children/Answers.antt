-- `match_rows::cores::stamp_children` meets its contract: the children below x are still to be stamped. Assumes nothing.
use Rattle.std.specs.Prelude.{◌≡◌, ℕ, ◌-◌, List}
use mathlib.Core.Path.{sym, ap, ◌∙◌}
use native.Mathlib.Omega.{arith}
use Rattle.graph.specs.Sets.{gather}
use Rattle.graph.specs.Links.{rows_in}
use Rattle.tables.specs.Verdict.{at}
use Rattle.match_rows.specs.Rows.{latest, stamps}
use Rattle.match_rows.proofs.HalvedLaws.{rises-of}
use Rattle.match_rows.proofs.ChildLaws.{latest-le, latest-latest, children-latest, stamps-length, walk_turn, walk-child, walk_end}
use Rattle.match_rows.proofs.cores.stamp_children.Goals as goal

pub bounds-family-k : goal.bounds-family-k
bounds-family-k c = omega (arith, c.requires.n_bound.0, c.requires.k_lt_n.0)

pub loop-x-init : goal.loop-x-init
loop-x-init c =
    let s = c.requires in
    let a = c.args in
    let listed = rows_in a.l_starts.now a.l_rows.now in
    let e = s.k_lt_n.1.heads_of a.k (omega (arith, s.n_bound.0, s.k_lt_n.0)) in
    rw e (latest-le listed a.k a.n, latest-latest listed a.k a.n, s.k_lt_n.2, ap (λ (l : List ℕ). stamps a.v (gather listed l) a.seen.now) (children-latest listed a.k a.n))

pub stamp_rows-requires : goal.stamp_rows-requires
stamp_rows-requires c =
    let s = c.requires in
    let x = c.loop-x.x in
    (rises-of s.n_bound.1 (x - 1) (omega arith), λ p h. omega (arith, s.n_bound.0, s.n_bound.1.below p h), c.loop-x.invariant.2)

pub bounds-family-c : goal.bounds-family-c
bounds-family-c c = omega (arith, c.requires.n_bound.0)

-- the link read last leads to the child before
next : (c : goal.After-x-in-loop-x-1) → let a = c.args in
    let x = c.loop-x.x in at a.family.now.sibling.now (x - 1) ≡ latest (rows_in a.l_starts.now a.l_rows.now) a.k (x - 1)
next c =
    let l = c.loop-x in
    let listed = rows_in c.args.l_starts.now c.args.l_rows.now in
    c.requires.k_lt_n.1.siblings (l.x - 1) c.args.k (omega arith) (walk-child listed c.args.k c.args.v l.x l.seen (omega arith) l.invariant.1)

pub loop-x-smaller : goal.loop-x-smaller
loop-x-smaller c =
    let a = c.args in
    let l = c.loop-x in
    omega (arith, next c, latest-le (rows_in a.l_starts.now a.l_rows.now) a.k (l.x - 1))

pub loop-x-preserved : goal.loop-x-preserved
loop-x-preserved c =
    let s = c.requires in
    let a = c.args in
    let l = c.loop-x in
    let listed = rows_in a.l_starts.now a.l_rows.now in
    let e = c.stamp_rows.ensures in
    rw (next c, e) (
      omega (arith, latest-le listed a.k (l.x - 1)),
      latest-latest listed a.k (l.x - 1),
      stamps-length a.v (listed (l.x - 1)) l.seen ∙ l.invariant.2,
      l.invariant.3 ∙ walk_turn listed a.k a.v l.x l.seen (omega arith) l.invariant.1,
    )

pub returns : goal.returns
returns c =
    let a = c.args in
    let l = c.loop-x in
    let listed = rows_in a.l_starts.now a.l_rows.now in
    sym (l.invariant.3 ∙ walk_end listed a.k a.v l.x l.seen c.loop-x-test.false)
