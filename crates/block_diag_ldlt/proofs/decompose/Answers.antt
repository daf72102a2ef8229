-- `block_diag_ldlt::decompose` meets its contract: a refusal of the checks, else what the core answers. Assumes nothing.
use mathlib.Core.Path.{ap, ◌∙◌}
use Rattle.block_diag_ldlt.specs.Block.{told_settled}
use Rattle.block_diag_ldlt.proofs.VerdictLaws.{err-is, block-told, refused, passes}
use Rattle.block_diag_ldlt.proofs.decompose.Goals as goal

pub returns-in_err-decompose_shapes : goal.returns-in_err-decompose_shapes
returns-in_err-decompose_shapes c = rw (err-is _ _ c.from_residual.ensures.1) (refused _ _ _ _ _ _ c.decompose_shapes.ensures.verdict _ c.in_err-decompose_shapes.was)

pub returns-in_err-r : goal.returns-in_err-r
returns-in_err-r c =
    rw (err-is _ _ c.from_residual-in_err-r.ensures.1)
    (block-told _ _ _ ∙ ap told_settled (rw c.in_err-r.was at c.decompose_core.ensures) ∙ passes _ _ _ _ _ _ c.decompose_shapes.ensures.verdict _ c.in_ok-decompose_shapes.was)

pub returns : goal.returns
returns c = ap told_settled (rw c.in_ok-r.was at c.decompose_core.ensures) ∙ passes _ _ _ _ _ _ c.decompose_shapes.ensures.verdict _ c.in_ok-decompose_shapes.was
