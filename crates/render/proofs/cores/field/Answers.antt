-- `render::cores::field` meets its contract: the number behind the label. Assumes nothing.
use borrow.Author.Rules.{rules}
use Rattle.digits.specs.Digits.{decimal}
use Rattle.render.proofs.Laws.{puts-next}
use Rattle.render.proofs.cores.field.Goals as goal

pub returns : goal.returns
returns c = record { puts = puts-next (decimal c.args.n) c.text.ensures.puts c.decimal.ensures.puts c.requires; same = search rules }
