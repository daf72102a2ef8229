-- `tiled_vector::cores::row_sums` meets its contract. Assumes nothing.
use Rattle.std.specs.Prelude.{get_or}
use mathlib.Core.Path.{refl}
use lib.Ieee.{nan}
use borrow.Author.Rules.{rules}
use Rattle.scalar.specs.Block.{at}
use Rattle.tiled_vector.proofs.Parts.{sums_none, sums_more, sums_all}
use Rattle.tiled_vector.proofs.cores.row_sums.Goals as goal

pub loop-c-init : goal.loop-c-init
loop-c-init g c = let x = c.args in (search rules, sums_none (λ u q. at x.a.now x.h q u) (λ u. get_or x.b.now u nan) x.r g.row.N _ refl)

pub loop-c-preserved : goal.loop-c-preserved
loop-c-preserved g c =
    let x = c.args in
    let l = c.loop-c in
    (search rules, sums_more (λ u q. at x.a.now x.h q u) (λ u. get_or x.b.now u nan) x.r l.c g.row.N l.q _ _ _ l.invariant.1 c.entries.ensures refl c.gained-q.ensures)

pub returns : goal.returns
returns g c =
    let x = c.args in
    let l = c.loop-c in
    sums_all (λ u q. at x.a.now x.h q u) (λ u. get_or x.b.now u nan) x.r l.c x.w g.row.N l.q (search rules) (search rules) l.invariant.1
