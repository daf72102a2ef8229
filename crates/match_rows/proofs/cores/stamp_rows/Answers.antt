-- `match_rows::cores::stamp_rows` meets its contract: what is left of the column is still to be stamped. Assumes nothing.
use Rattle.std.specs.Prelude.{◌+◌}
use Rattle.tables.specs.Verdict.{at}
use mathlib.Core.Path.{refl, sym, ◌∙◌}
use native.Mathlib.Omega.{arith}
use lib.ListN.{length-set}
use Rattle.match_rows.proofs.ChildLaws.{stamps-turn, stamps-end}
use Rattle.match_rows.proofs.cores.stamp_rows.Goals as goal

pub loop-u-init : goal.loop-u-init
loop-u-init c =
    let start = c.requires in
    (refl, omega (arith, start.0.inside.0), omega (arith, start.0.inside.1), start.2, refl)

pub offset_bounds-seen-i : goal.offset_bounds-seen-i
offset_bounds-seen-i c = omega (arith, c.requires.1 c.loop-u.u (omega arith))

pub bounds-seen-i : goal.bounds-seen-i
bounds-seen-i c = omega (arith, c.requires.1 c.loop-u.u (omega arith))

pub loop-u-preserved : goal.loop-u-preserved
loop-u-preserved c =
    let l = c.loop-u in
    let s = c.args in (
      l.invariant.0,
      omega arith,
      l.invariant.2,
      simp length-set l.invariant.3,
      l.invariant.4 ∙ stamps-turn s.v s.l_rows.now l.u (at s.l_starts.now (s.c + 1)) l.seen (omega arith) l.invariant.2,
    )

pub returns : goal.returns
returns c =
    let l = c.loop-u in
    let s = c.args in
    sym (l.invariant.4 ∙ stamps-end s.v s.l_rows.now l.u (at s.l_starts.now (s.c + 1)) l.seen (omega arith) (omega arith))
