-- `finish_column::cores::finish_column` meets its contract: what the two steps leave is the machine's end of the column, in each of the
-- two ways out. Assumes nothing.
use Rattle.layout.specs.Layout.{laid}
use Rattle.block_diag_ldlt.proofs.VerdictLaws.{err-is}
use Rattle.finish_column.proofs.StepLaws.{block-later}
use Rattle.finish_column.proofs.FinishLaws.{block-fits, rows_fit, stopped, stored}
use Rattle.finish_column.proofs.cores.finish_column.Goals as goal

pub decompose_at-requires : goal.decompose_at-requires
decompose_at-requires c =
    let t = c.args.t.now in
    block-fits (laid t) t.unit_starts.now t.d_starts.now c.args.places.now c.args.j _ _ _ _ c.requires.rows_laid c.requires.diagonal_laid c.requires.placed

pub store_at-requires-clause-block_fit : goal.store_at-requires-clause-block_fit
store_at-requires-clause-block_fit c =
    let t = c.args.t.now in
    block-later t.sizes.now c.args.places.now t.unit_starts.now t.d_starts.now c.args.j _ _ _ _ _ c.decompose_at.auto.diag c.decompose_at.auto.d
    (block-fits (laid t) t.unit_starts.now t.d_starts.now c.args.places.now c.args.j _ _ _ _ c.requires.rows_laid c.requires.diagonal_laid c.requires.placed)

pub store_at-requires-clause-store_fit : goal.store_at-requires-clause-store_fit
store_at-requires-clause-store_fit c =
    let t = c.args.t.now in
    rows_fit (laid t) t.unit_starts.now t.d_starts.now c.args.places.now c.args.j _ _ _ _ c.requires.rows_laid c.requires.diagonal_laid c.requires.placed

pub returns-clause-finishes : goal.returns-clause-finishes
returns-clause-finishes c =
    let t = c.args.t.now in
    let f = c.args.f.now in
    stored (laid t) t.unit_starts.now t.d_starts.now c.args.places.now c.args.j c.args.tol c.args.c.now f.l_values.now f.diag.now f.d.now _ _
    c.requires.rows_laid c.requires.diagonal_laid c.requires.placed.1 _ (rw c.in_ok-k.was at c.decompose_at.ensures) _ c.store_at.ensures

pub returns-in_err-k-clause-finishes : goal.returns-in_err-k-clause-finishes
returns-in_err-k-clause-finishes c =
    let t = c.args.t.now in
    let f = c.args.f.now in
    rw (err-is _ _ c.from_residual.ensures.1)
    (stopped (laid t) t.unit_starts.now t.d_starts.now c.args.places.now c.args.j c.args.tol c.args.c.now f.l_values.now f.diag.now f.d.now _ _ _
    (rw c.in_err-k.was at c.decompose_at.ensures))
