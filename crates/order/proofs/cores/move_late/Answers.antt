-- `order::cores::move_late` meets its contract. Assumes nothing.
use Rattle.std.specs.Prelude.{ℕ, ◌<◌, true, false, List, length}
use mathlib.Core.Path.{refl, sym, ap, subst, ◌∙◌}
use native.Mathlib.Omega.{arith}
use lib.Seq.{sets}
use Rattle.order.specs.Order.{group}
use Rattle.order.proofs.Laws.{groups-fit, groups-moved}
use Rattle.order.proofs.cores.move_late.Goals as goal

pub keep-at-requires : goal.keep-at-requires
keep-at-requires c =
    let fit = groups-fit (length c.args.order.now) c.args.late.now c.args.perm.now c.args.order.now c.requires.0 refl in
    record { by_index = λ block t. subst (λ (m : ℕ). block < m) (sym c.requires.1) (c.requires.0.below block t); perm_in_bounds = omega arith }

pub keep-requires : goal.keep-requires
keep-requires c =
    let call = c.keep-at in
    let fit = groups-fit (length c.args.order.now) c.args.late.now c.args.perm.now c.args.order.now c.requires.0 refl in
    record { by_index = λ block t. subst (λ (m : ℕ). block < m) (sym c.requires.1) (c.requires.0.below block t); perm_in_bounds = omega (arith, call.auto.order, call.ensures.value) }

pub returns : goal.returns
returns c =
    let one = c.keep-at in
    let two = c.keep in
    let late = c.args.late.now in
    let perm = c.args.perm.now in
    two.ensures.order_after ∙ ap (λ (l : List ℕ). sets l one.result (group true late perm)) one.ensures.order_after ∙ ap (λ (m : ℕ). sets (sets c.args.order.now 0 (group false late perm)) m (group true late perm)) one.ensures.value
    ∙ groups-moved (length c.args.order.now) late perm c.args.order.now c.requires.0 refl
