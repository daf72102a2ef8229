-- `reach::reach` meets its contract: the tables are refused, or they pass and the needs decide. Assumes nothing.
use Rattle.std.proofs.Common.{length, sym, ap, subst}
use Rattle.refusal.specs.Refusal.{Told, refuses}
use Rattle.tables.proofs.Sound.{tree-sound}
use Rattle.reach.specs.Walk.{Walks}
use Rattle.reach.proofs.WalkLaws.{tables_refused, tables-passed}
use Rattle.reach.proofs.reach.Goals as goal

pub returns-in_err-check_tree : goal.returns-in_err-check_tree
returns-in_err-check_tree c = tables_refused _ _ _ _ _ _ _ _ _ c.from_residual.ensures c.in_err-check_tree.ensures

pub walked_core-requires : goal.walked_core-requires
walked_core-requires c = tree-sound _ _ _ (ap refuses (sym c.in_ok-check_tree.ensures))

pub returns : goal.returns
returns c =
    let a = c.args in
    let call = c.walked_core in
    subst (λ (v : Told). Walks v a.starts.now a.rows.now a.parents.now a.j a.mark a.stamps.now a.found.now call.result call.new.stamps call.new.found)
    (tables-passed a.starts.now a.rows.now a.parents.now a.j (length a.stamps.now) (length a.found.now) c.in_ok-check_tree.ensures)
    call.ensures
