-- `block_solves::cores::solve_block` meets its contract: the lent part is put back as the block's solve left it (`block-done`). Assumes nothing.
use Rattle.std.specs.Prelude.{◌+◌, ◌*◌, length}
use mathlib.Core.Path.{sym, ap, ◌∙◌}
use native.Mathlib.Nat.{add-sub_cancel_left}
use borrow.Rule.Slice.PartMut.{mid_len}
use Rattle.tables.specs.Verdict.{at}
use Rattle.block_solves.proofs.BlockLaws.{unit-next, block-done}
use Rattle.block_solves.proofs.cores.solve_block.Goals as goal

pub returns-clause-value : goal.returns-clause-value
returns-clause-value c =
    ap (λ u. u + at c.args.sizes.now c.args.j * at c.args.sizes.now c.args.j) c.requires.j_in_bounds.1 ∙ unit-next c.args.sizes.now c.args.j c.requires.j_in_bounds.0

pub returns-clause-solves_block : goal.returns-clause-solves_block
returns-clause-solves_block c =
    let x = c.args in
    let b = c.ldlt_solve_core in
    let o = at x.starts.now x.j in
    let w = at x.sizes.now x.j in
    let e = simp add-sub_cancel_left at b.ensures in
    block-done x.sizes.now x.starts.now x.diag.now x.d.now x.j x.unit x.y.now _ c.requires.starts_value.0 c.requires.starts_value.2 c.requires.j_in_bounds.0 c.requires.j_in_bounds.1
    (sym (ap length e) ∙ b.auto.x ∙ mid_len o (o + w) x.y.now c.requires.fits.0 ∙ add-sub_cancel_left _ _)
    (rw (e, add-sub_cancel_left))
