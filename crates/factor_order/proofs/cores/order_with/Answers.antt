-- `factor_order::cores::order_with` meets its contract. Assumes nothing.
use mathlib.Core.Path.{◌∙◌}
use Rattle.factor_order.proofs.SameLaws.{pointwise_same}
use Rattle.factor_order.proofs.cores.order_with.Goals as goal

pub move_late-requires : goal.move_late-requires
move_late-requires c =
    let s = c.requires in
    rw s.2 (s.0, s.1)

pub returns : goal.returns
returns c = rw (← c.move_late.ensures) (c.eq.ensures ∙ pointwise_same c.args.order.now c.move_late.new.order)
