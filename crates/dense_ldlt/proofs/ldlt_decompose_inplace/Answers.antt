-- `dense_ldlt::ldlt_decompose_inplace` meets its contract: a refusal of the checks, else what the core answers. Assumes nothing.
use mathlib.Core.Path.{ap, ◌∙◌}
use Rattle.dense_ldlt.specs.Decompose.{told_factored}
use Rattle.dense_ldlt.proofs.VerdictLaws.{err-told, refused, passes}
use Rattle.dense_ldlt.proofs.ldlt_decompose_inplace.Goals as goal

pub returns-in_err-decompose_shapes : goal.returns-in_err-decompose_shapes
returns-in_err-decompose_shapes c = rw (err-told _ _ c.from_residual.ensures.1) (refused _ _ _ _ _ c.decompose_shapes.ensures.verdict _ c.in_err-decompose_shapes.was)

pub returns-in_err-r : goal.returns-in_err-r
returns-in_err-r c =
    rw (err-told _ _ c.from_residual-in_err-r.ensures.1)
    (ap told_factored (rw c.in_err-r.was at c.ldlt_decompose_core.ensures) ∙ passes _ _ _ _ _ c.decompose_shapes.ensures.verdict _ c.in_ok-decompose_shapes.was)

pub returns : goal.returns
returns c = ap told_factored (rw c.in_ok-r.was at c.ldlt_decompose_core.ensures) ∙ passes _ _ _ _ _ c.decompose_shapes.ensures.verdict _ c.in_ok-decompose_shapes.was
