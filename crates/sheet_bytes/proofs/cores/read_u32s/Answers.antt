-- `sheet_bytes::cores::read_u32s` meets its contract: the entries that are set are the table's. Assumes nothing.
use Rattle.std.specs.Prelude.{◌+◌, ◌*◌}
use Rattle.std.proofs.lemmas.Option.{get_or_from_slice_get}
use borrow.Author.Rules.{rules}
use Rattle.sheet_bytes.specs.Layout.{u32_at}
use Rattle.sheet_bytes.proofs.Laws.{u32s-filled}
use Rattle.sheet_bytes.proofs.cores.read_u32s.Goals as goal

pub returns : goal.returns
returns c =
    let x = c.args in
    u32s-filled _ _ _ _ c.set_each.new.out c.set_each.ensures.room
    (λ k below. get_or_from_slice_get _ k _ 0 (c.set_each.ensures.each (λ j. u32_at x.s.now (x.start + x.stride * j)) (λ j y inside gives. search rules) k below))
