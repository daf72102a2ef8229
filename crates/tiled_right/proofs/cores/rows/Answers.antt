-- `tiled_right::cores::rows` meets its contract. Assumes nothing.
use Rattle.std.specs.Prelude.{◌+◌, ◌-◌, get_or}
use mathlib.Core.Path.{◌∙◌}
use lib.Ieee.{nan, binary64, mul}
use borrow.Author.Rules.{rules}
use Rattle.scalar.specs.Block.{at}
use Rattle.kernel_diag.specs.Diag.{inverse}
use Rattle.tiled_right.proofs.Tiles.{rows-wrote, held_none, forward-more, forward-all, backward-more, backward_all}
use Rattle.tiled_right.proofs.cores.rows.Goals as goal

pub loop-j-init : goal.loop-j-init
loop-j-init g c = let x = c.args in (search rules, search rules, held_none x.m x.n _ _ x.i g.row.N (search rules) x.x.now)

pub loop-j-preserved : goal.loop-j-preserved
loop-j-preserved g c =
    let x = c.args in
    let o = c.loop-j in (
      search rules,
      search rules,
      forward-more x.m x.n x.l.now x.d.now x.from.now (search rules) x.i g.row.N (search rules) x.x.now o.j-counter o.x _ (search rules) o.invariant.2
          (rows-wrote x.m o.x (λ v. v) (at x.l.now x.n o.j-counter) x.i x.n o.j-counter o.j-counter (λ r. at x.from.now x.m r o.j-counter) (search rules) (search rules) g.row.N _ _ _ (search rules) c.entries-s.ensures
          (c.lost-z.ensures (λ v. v) (at x.l.now x.n o.j-counter) (λ v z inside gives. search rules)) c.keep.ensures),
    )

pub loop-u-init : goal.loop-u-init
loop-u-init g c = let x = c.args in let o = c.loop-j in (search rules, search rules, forward-all x.m x.n x.l.now x.d.now x.from.now (search rules) x.i g.row.N o.j-counter x.x.now o.x (search rules) o.invariant.2)

pub loop-u-preserved : goal.loop-u-preserved
loop-u-preserved g c =
    let x = c.args in
    let o = c.loop-u in
    let j = x.n - 1 - o.u in
    let by = inverse (get_or x.d.now j nan) in (
      search rules,
      search rules,
      backward-more x.m x.n x.l.now x.d.now x.from.now (search rules) x.i g.row.N (search rules) c.loop-j.x o.u o.x _ (search rules) o.invariant.2
          (rows-wrote x.m o.x (λ v. j + 1 + v) (λ v. at x.l.now x.n (j + 1 + v) j) x.i x.n j o.u (λ r. mul binary64 (at o.x x.m r j) by) (search rules) (search rules) g.row.N _ _ _ (search rules)
          (λ q h. c.times-s.ensures q h ∙ rw (c.inverse_of.ensures, c.entries.ensures q h)) (c.lost-z-in-loop-u.ensures (λ v. j + 1 + v) (λ v. at x.l.now x.n (j + 1 + v) j) (λ v z inside gives. search rules))
          c.keep-in-loop-u.ensures),
    )

pub returns : goal.returns
returns g c = let x = c.args in let f = c.loop-j in let o = c.loop-u in backward_all x.m x.n x.l.now x.d.now x.from.now (search rules) x.i g.row.N f.j-counter o.u x.x.now f.x o.x (search rules) f.invariant.2 o.invariant.2
