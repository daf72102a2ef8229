-- `tiled_product::cores::one` meets its contract. Assumes nothing.
use mathlib.Core.Path.{ap, ◌∙◌}
use borrow.Author.Rules.{rules}
use Rattle.scalar.specs.Loop.{steps}
use Rattle.scalar.specs.Block.{at, put}
use Rattle.scalar.proofs.Laws.{steps-none, steps_next, steps_all}
use Rattle.tiled_product.proofs.cores.one.Goals as goal

pub loop-t-init : goal.loop-t-init
loop-t-init g c = (search rules, steps-none _ _ _ (rw (c.first-s.ensures, c.entry.ensures)))

pub loop-t-preserved : goal.loop-t-preserved
loop-t-preserved g c = (search rules, steps_next _ _ _ _ _ c.loop-t.invariant.1 (rw (c.turn-s.ensures, c.left.ensures, c.right.ensures)))

pub returns : goal.returns
unfolding steps
returns g c =
    let x = c.args in
    let l = c.loop-t in
    let f = g.P.Product.formula x.p.now in
    c.store.ensures ∙ ap (put x.y.now 1 0 0) (steps_all (λ t s. f.turn s (f.left 0 t) (f.right 0 t)) l.t f.turns (f.first 0 0 (at x.y.now 1 0 0)) l.s l.invariant.1 (search rules) (search rules))
