-- `factor_order::cores::size_under` meets its contract. Assumes nothing.
use mathlib.Core.Path.{sym, ◌∙◌}
use native.Mathlib.Omega.{arith}
use Rattle.std.specs.Prelude.{length}
use Rattle.order.proofs.Laws.{below_at}
use Rattle.scalars.proofs.ScalarLaws.{sizes-at}
use Rattle.factor_order.proofs.cores.size_under.Goals as goal

pub offset_bounds-dims-old : goal.offset_bounds-dims-old
offset_bounds-dims-old c =
    let s = c.requires in
    let a = c.args in
    omega (arith, below_at (length a.dims.now) a.order.now s.0 a.k s.1)

pub bounds-dims-old : goal.bounds-dims-old
bounds-dims-old c =
    let s = c.requires in
    let a = c.args in
    omega (arith, below_at (length a.dims.now) a.order.now s.0 a.k s.1)

pub returns : goal.returns
returns c =
    let s = c.requires in
    let a = c.args in
    sym (sizes-at a.dims.now a.order.now a.k (omega (arith, s.0.entries, s.1)))
