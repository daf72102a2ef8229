-- `order::cores::invert` meets its contract. Assumes nothing.
use Rattle.std.specs.Prelude.{ℕ, ◌<◌, length, get_or}
use mathlib.Core.Path.{sym, subst, ◌∙◌}
use native.Mathlib.Omega.{arith}
use lib.ListN.{length-set}
use Rattle.order.proofs.Laws.{below_at, inverse-turn, inverse-of}
use Rattle.order.proofs.cores.invert.Goals as goal

pub bounds-inverse-old : goal.bounds-inverse-old
bounds-inverse-old c =
    let v = c.loop-k in
    subst (λ (m : ℕ). get_or c.args.order.now v.k 0 < m) (sym v.invariant.1) (below_at (length c.args.inverse.now) c.args.order.now c.requires.0 v.k (omega (arith, c.requires.0.entries)))

pub loop-k-preserved : goal.loop-k-preserved
loop-k-preserved c =
    let v = c.loop-k in
    let inside : v.k < length c.args.inverse.now = omega (arith, c.requires.0.entries) in (
      omega arith,
      length-set v.inverse (get_or c.args.order.now v.k 0) v.k ∙ v.invariant.1,
      inverse-turn (length c.args.inverse.now) c.args.order.now c.requires.0 v.inverse v.k v.invariant.1 inside v.invariant.2,
    )

pub returns : goal.returns
returns c =
    let v = c.loop-k in
    inverse-of (length c.args.inverse.now) c.args.order.now c.requires.0 v.inverse v.invariant.1 (λ i h. v.invariant.2 i (omega (arith, c.requires.0.entries)))
