-- `load_column::cores::load_block` meets its contract: by which of the two old numbers is the greater. Assumes nothing.
use mathlib.Core.Path.{◌∙◌}
use Rattle.load_column.proofs.StoredLaws.{block-rises, block_falls}
use Rattle.load_column.proofs.cores.load_block.Goals as goal

pub returns-then-oi-oj : goal.returns-then-oi-oj
returns-then-oi-oj c =
    let a = c.args.a.now in
    c.load_stored.ensures ∙ block-rises a.dims.now a.starts.now a.rows.now a.values.now a.order.now c.args.i c.args.j c.if-oi-oj.true

pub returns-else-oi-oj : goal.returns-else-oi-oj
returns-else-oi-oj c =
    let a = c.args.a.now in
    c.load_stored-else-oi-oj.ensures ∙ block_falls a.dims.now a.starts.now a.rows.now a.values.now a.order.now c.args.i c.args.j c.if-oi-oj.false
