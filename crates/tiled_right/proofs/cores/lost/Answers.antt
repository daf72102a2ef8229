-- `tiled_right::cores::lost` meets its contract. Assumes nothing.
use borrow.Author.Rules.{rules}
use Rattle.tiled_right.proofs.Tiles.{lost_none, losing_none, losing_more, losing_all, lost_all}
use Rattle.tiled_right.proofs.cores.lost.Goals as goal

pub loop-v-init : goal.loop-v-init
loop-v-init g c = let x = c.args in (search rules, search rules, λ p b h. lost_none x.m x.x.now p b x.i x.s g.row.N)

pub loop-q-init : goal.loop-q-init
loop-q-init g c =
    let x = c.args in
    let v = c.loop-v in
    (search rules, search rules, λ p b h. losing_none x.m x.x.now p b x.i x.s v.v g.row.N v.z (v.invariant.2 p b h))

pub loop-q-preserved : goal.loop-q-preserved
loop-q-preserved g c =
    let x = c.args in
    let q = c.loop-q in (
      search rules,
      search rules,
      λ p b h.
          let gives = h c.loop-v.v _ (search rules) c.term-t.ensures in
          losing_more x.m x.x.now p b x.i x.s c.loop-v.v q.q g.row.N q.z _ (search rules) (search rules) (q.invariant.2 p b h) (rw (c.entry.ensures, gives.0, gives.1)),
    )

pub loop-v-preserved : goal.loop-v-preserved
loop-v-preserved g c =
    let x = c.args in
    let q = c.loop-q in
    (search rules, search rules, λ p b h. losing_all x.m x.x.now p b x.i x.s c.loop-v.v q.q g.row.N q.z (search rules) (q.invariant.2 p b h))

pub returns : goal.returns
returns g c =
    let x = c.args in
    let v = c.loop-v in
    λ p b h. lost_all x.m x.x.now p b x.i x.s v.v x.count g.row.N v.z (search rules) (search rules) (v.invariant.2 p b h)
