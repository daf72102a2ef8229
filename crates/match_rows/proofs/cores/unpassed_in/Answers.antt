-- `match_rows::cores::unpassed_in` meets its contract: the walk of the two columns (`Walked`). Assumes nothing.
use Rattle.std.specs.Prelude.{◌+◌, ◌<◌}
use mathlib.Core.Path.{refl}
use native.Mathlib.Omega.{arith}
use Rattle.tables.specs.Verdict.{at}
use Rattle.tables.proofs.SearchLaws.{ended}
use Rattle.match_rows.proofs.FoundLaws.{found-at, found-none}
use Rattle.match_rows.proofs.WalkLaws.{walked_none, walk_over, walk_next, walk_end, walk_lacks, walk_on}
use Rattle.match_rows.proofs.cores.unpassed_in.Goals as goal
use Rattle.match_rows.proofs.cores.unpassed_in.Goals.{then-l_rows-place+else-last-place-2+else-row-l_rows, else-l_rows-place}

pub loop-u-init : goal.loop-u-init
loop-u-init c =
    let s = c.requires in
    (refl, refl, walked_none s.0 s.1 s.2)

pub returns-then-last-place : goal.returns-then-last-place
returns-then-last-place c =
    let s = c.requires in
    let g = c.loop-u.invariant in
    found-at _ _ _ _ (walk_over s.0 s.1 g.2 (omega (arith, g.0)) (omega (arith, g.1))) (omega (arith, g.0))

pub place_from-place-requires : goal.place_from-place-requires
place_from-place-requires c =
    let g = c.loop-u.invariant in
    let l : c.loop-u.u < at c.args.l_starts.now (c.args.c + 1) = omega (arith, g.0) in
    record { column_rises = c.requires.1; column_bound = (g.2.within.0, g.2.within.1, λ p a b. g.2.below p c.loop-u.u a b (omega arith) l) }

pub returns-then-last-place-2 : goal.returns-then-last-place-2
returns-then-last-place-2 c =
    let s = c.requires in
    let g = c.loop-u.invariant in
    found-at _ _ _ _ (walk_end s.0 s.1 g.2 (omega (arith, g.0)) c.place_from-place.ensures (omega (arith, g.1))) (omega (arith, g.0))

pub returns-then-row-l_rows : goal.returns-then-row-l_rows
returns-then-row-l_rows c =
    let s = c.requires in
    let g = c.loop-u.invariant in
    found-at _ _ _ _ (walk_lacks s.0 s.1 g.2 (omega (arith, g.0)) c.place_from-place.ensures (omega (arith, g.1)) c.if-row-l_rows.true) (omega (arith, g.0))

pub overflow_add-place : goal.overflow_add-place
overflow_add-place c =
    let s = c.requires in
    let last = c.loop-u.invariant.1 in
    elim c.if-l_rows-place.branch [
      | then-l_rows-place+else-last-place-2+else-row-l_rows w ↦ omega (arith, w.place-is, w.if-last-place-2.false, last, s.1.inside.1)
      | else-l_rows-place w ↦ omega (arith, w.place-is, last, s.1.inside.1)
    ]

pub loop-u-preserved : goal.loop-u-preserved
loop-u-preserved c =
    let s = c.requires in
    let g = c.loop-u.invariant in
    elim c.if-l_rows-place.branch [
      | then-l_rows-place+else-last-place-2+else-row-l_rows w ↦
          (g.0, g.1, rw w.place-is (walk_on s.0 s.1 g.2 (omega (arith, g.0)) w.place_from-place.ensures (omega (arith, g.1, w.if-last-place-2.false)) w.if-row-l_rows.false))
      | else-l_rows-place w ↦ (g.0, g.1, rw w.place-is (walk_next s.0 s.1 g.2 (omega (arith, g.0)) (omega (arith, g.1)) w.if-l_rows-place.false))
    ]

pub returns : goal.returns
returns c =
    let g = c.loop-u.invariant in
    found-none _ _ _ (omega (arith, g.0, ended g.2.walk (omega (arith, g.0))))
