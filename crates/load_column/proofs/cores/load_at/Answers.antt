-- `load_column::cores::load_at` meets its contract: the part of c that is lent is the block. Assumes nothing.
use Rattle.std.specs.Prelude.{◌+◌, ◌*◌}
use mathlib.Core.Path.{◌∙◌}
use native.Mathlib.Nat.{add-sub_cancel_left}
use native.Mathlib.Omega.{arith}
use borrow.Rule.Slice.PartMut.{mid_len}
use Rattle.tables.specs.Verdict.{at}
use Rattle.load_column.proofs.SourceLaws.{ordered-all, sized-all, old_below, area-is}
use Rattle.load_column.proofs.cores.load_at.Goals as goal

pub bounds-t-i : goal.bounds-t-i
bounds-t-i c = omega (arith, sized-all c.requires.source)

pub bounds-t-j : goal.bounds-t-j
bounds-t-j c = omega (arith, sized-all c.requires.source)

pub load_block-requires-clause-i_in_bounds : goal.load_block-requires-clause-i_in_bounds
load_block-requires-clause-i_in_bounds c =
    let s = c.requires.source in
    let b = c.requires.i_in_bounds in
    (omega (arith, ordered-all s), omega (arith, ordered-all s), old_below s c.args.i b.0, old_below s c.args.j b.1)

pub load_block-requires-clause-y_len : goal.load_block-requires-clause-y_len
load_block-requires-clause-y_len c =
    let x = c.args in
    let area = at x.t.now.sizes.now x.i * at x.t.now.sizes.now x.j in
    mid_len x.place (x.place + area) x.c.now c.requires.j_in_bounds.0 ∙ add-sub_cancel_left x.place area ∙ area-is c.requires.source x.i x.j c.requires.i_in_bounds.0 c.requires.i_in_bounds.1
