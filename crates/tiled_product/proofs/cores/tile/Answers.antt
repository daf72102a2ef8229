-- `tiled_product::cores::tile` meets its contract. Assumes nothing.
use borrow.Author.Rules.{rules}
use Rattle.tiled_product.proofs.TileLaws.{after_none, after_all, turning_none, turning_more, turning_all, tiled}
use Rattle.tiled_product.specs.Tiled.{worked}
use Rattle.tiled_product.proofs.cores.tile.Goals as goal

pub loop-t-init : goal.loop-t-init
loop-t-init g c =
    let x = c.args in
    let none = after_none (g.P.Product.formula x.p.now) x.h x.y.now x.i in (
      search rules,
      (search rules, none x.j.c0 g.row.N _ c.firsts-s0.ensures),
      (search rules, none x.j.c1 g.row.N _ c.firsts-s1.ensures),
      (search rules, none x.j.c2 g.row.N _ c.firsts-s2.ensures),
    )

pub loop-q-init : goal.loop-q-init
loop-q-init g c =
    let x = c.args in
    let l = c.loop-t in
    let none = turning_none (g.P.Product.formula x.p.now) x.h x.y.now x.i in (
      search rules,
      (search rules, none x.j.c0 l.t g.row.N l.s0 l.invariant.1.1),
      (search rules, none x.j.c1 l.t g.row.N l.s1 l.invariant.2.1),
      (search rules, none x.j.c2 l.t g.row.N l.s2 l.invariant.3.1),
    )

pub loop-q-preserved : goal.loop-q-preserved
loop-q-preserved g c =
    let x = c.args in
    let t = c.loop-t.t in
    let l = c.loop-q in
    let more = turning_more (g.P.Product.formula x.p.now) x.h x.y.now x.i in (
      search rules,
      (search rules, more x.j.c0 t l.q g.row.N l.s0 _ (search rules) (search rules) l.invariant.1.1 (rw (c.turn.ensures, c.left-a.ensures, c.right-b0.ensures))),
      (search rules, more x.j.c1 t l.q g.row.N l.s1 _ (search rules) (search rules) l.invariant.2.1 (rw (c.turn-in-loop-q.ensures, c.left-a.ensures, c.right-b1.ensures))),
      (search rules, more x.j.c2 t l.q g.row.N l.s2 _ (search rules) (search rules) l.invariant.3.1 (rw (c.turn-in-loop-q-2.ensures, c.left-a.ensures, c.right-b2.ensures))),
    )

pub loop-t-preserved : goal.loop-t-preserved
loop-t-preserved g c =
    let x = c.args in
    let t = c.loop-t.t in
    let l = c.loop-q in
    let all = turning_all (g.P.Product.formula x.p.now) x.h x.y.now x.i in (
      search rules,
      (search rules, all x.j.c0 t l.q g.row.N l.s0 (search rules) l.invariant.1.1),
      (search rules, all x.j.c1 t l.q g.row.N l.s1 (search rules) l.invariant.2.1),
      (search rules, all x.j.c2 t l.q g.row.N l.s2 (search rules) l.invariant.3.1),
    )

pub returns : goal.returns
returns g c =
    let x = c.args in
    let l = c.loop-t in
    let f = g.P.Product.formula x.p.now in
    let all = after_all f x.h x.y.now x.i in
    tiled x.h x.w (worked f) x.y.now x.j.c0 x.j.c1 x.j.c2 x.i g.row.N l.s0 l.s1 l.s2 _
    (all x.j.c0 l.t g.row.N l.s0 (search rules) (search rules) l.invariant.1.1)
    (all x.j.c1 l.t g.row.N l.s1 (search rules) (search rules) l.invariant.2.1)
    (all x.j.c2 l.t g.row.N l.s2 (search rules) (search rules) l.invariant.3.1)
    (rw (c.keep-3.ensures, c.keep-2.ensures, c.keep.ensures))
