-- `elimination_tree::new` meets its contract: the pattern is refused, or it passes and the needs decide. Assumes nothing.
use Rattle.std.specs.Prelude.{length}
use mathlib.Core.Path.{sym, ap, subst}
use Rattle.refusal.specs.Refusal.{Told, refuses}
use Rattle.tables.proofs.Sound.{upper-sound}
use Rattle.elimination_tree.specs.New.{Grows}
use Rattle.elimination_tree.proofs.NewLaws.{pattern-refused, pattern-passed}
use Rattle.elimination_tree.proofs.new.Goals as goal

pub returns-in_err-check_upper : goal.returns-in_err-check_upper
returns-in_err-check_upper c = pattern-refused _ _ _ _ _ _ _ c.from_residual.ensures c.in_err-check_upper.ensures

pub grown_core-requires : goal.grown_core-requires
grown_core-requires c = upper-sound _ _ _ (ap refuses (sym c.in_ok-check_upper.ensures))

pub returns : goal.returns
returns c =
    let call = c.grown_core in
    subst (λ (v : Told). Grows v c.args.n c.args.starts.now c.args.rows.now c.args.parents.now c.args.ancestors.now call.result call.new.parents call.new.ancestors)
    (pattern-passed c.args.n c.args.starts.now c.args.rows.now (length c.args.parents.now) (length c.args.ancestors.now) c.in_ok-check_upper.ensures)
    call.ensures
