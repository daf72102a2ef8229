-- `render::cores::first_line` meets its contract: five labels with their numbers, and the line's end. Assumes nothing.
use borrow.Author.Rules.{rules}
use Rattle.render.specs.Lines.{field, blocks_label, scalars_label, stored_label, products_label, silent_label, line_feed}
use Rattle.render.proofs.Laws.{room-6, whole-line}
use Rattle.render.proofs.cores.first_line.Goals as goal

pub text-requires : goal.text-requires
text-requires c =
    let x = c.args in
    room-6 _ _ (field blocks_label x.blocks) (field scalars_label x.scalars) (field stored_label x.stored) (field products_label x.products) (field silent_label x.silent) line_feed c.requires c.field.ensures.puts c.field-2.ensures.puts c.field-3.ensures.puts c.field-4.ensures.puts c.field-5.ensures.puts

pub returns : goal.returns
returns c =
    let x = c.args in
    record { puts = whole-line _ _ (field blocks_label x.blocks) (field scalars_label x.scalars) (field stored_label x.stored) (field products_label x.products) (field silent_label x.silent) line_feed c.requires c.field.ensures.puts c.field-2.ensures.puts c.field-3.ensures.puts c.field-4.ensures.puts c.field-5.ensures.puts c.text.ensures.puts; same = search rules }
