-- `fill_rows::cores::top` meets its contract. Assumes nothing.
use mathlib.Core.Path.{sym, ◌∙◌}
use Rattle.fill_rows.proofs.Onward.{top-on, top-here}
use Rattle.fill_rows.proofs.cores.top.Goals as goal

pub returns-then-repeats_parent : goal.returns-then-repeats_parent
returns-then-repeats_parent c =
    sym (top-on c.args.parent.now c.args.l_starts.now c.args.onward.now c.args.k (sym c.repeats_parent.ensures ∙ c.if-repeats_parent.true))

pub returns : goal.returns
returns c =
    sym (top-here c.args.parent.now c.args.l_starts.now c.args.onward.now c.args.k (sym c.repeats_parent.ensures ∙ c.if-repeats_parent.false))
