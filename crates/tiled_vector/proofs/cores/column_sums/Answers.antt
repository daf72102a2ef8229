-- `tiled_vector::cores::column_sums` meets its contract. Assumes nothing.
use Rattle.std.specs.Prelude.{get_or}
use mathlib.Core.Path.{refl}
use lib.Ieee.{nan}
use borrow.Author.Rules.{rules}
use Rattle.scalar.specs.Block.{at}
use Rattle.tiled_vector.proofs.Parts.{sums_none, sums_more, sums_all}
use Rattle.tiled_vector.proofs.cores.column_sums.Goals as goal

pub loop-r-init : goal.loop-r-init
loop-r-init g c = let x = c.args in (search rules, sums_none (λ u q. at x.a.now x.h u q) (λ u. get_or x.b.now u nan) x.c g.row.N _ refl)

pub loop-r-preserved : goal.loop-r-preserved
loop-r-preserved g c =
    let x = c.args in
    let l = c.loop-r in
    (search rules, sums_more (λ u q. at x.a.now x.h u q) (λ u. get_or x.b.now u nan) x.c l.r g.row.N l.q _ _ _ l.invariant.1 c.across.ensures refl c.gained-q.ensures)

pub returns : goal.returns
returns g c =
    let x = c.args in
    let l = c.loop-r in
    sums_all (λ u q. at x.a.now x.h u q) (λ u. get_or x.b.now u nan) x.c l.r x.h g.row.N l.q (search rules) (search rules) l.invariant.1
