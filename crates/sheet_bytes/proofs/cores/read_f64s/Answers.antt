-- `sheet_bytes::cores::read_f64s` meets its contract: the entries that are set are the table's. Assumes nothing.
use Rattle.std.specs.Prelude.{◌+◌, ◌*◌}
use Rattle.std.specs.Float.{nan}
use Rattle.std.proofs.lemmas.Option.{get_or_from_slice_get}
use borrow.Author.Rules.{rules}
use Rattle.sheet_bytes.specs.Layout.{f64_at}
use Rattle.sheet_bytes.proofs.Laws.{f64s-filled}
use Rattle.sheet_bytes.proofs.cores.read_f64s.Goals as goal

pub returns : goal.returns
returns c =
    let x = c.args in
    f64s-filled _ _ _ c.set_each.new.out c.set_each.ensures.room
    (λ k below. get_or_from_slice_get _ k _ nan (c.set_each.ensures.each (λ j. f64_at x.s.now (x.start + 8 * j)) (λ j y inside gives. search rules) k below))
