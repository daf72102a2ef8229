-- `block_solves::cores::solve_blocks` meets its contract: block by block. Assumes nothing.
use mathlib.Core.Path.{refl, ◌∙◌}
use native.Mathlib.Omega.{arith}
use Rattle.block_solves.proofs.BlockLaws.{block_fits, unit-first, blocks-none, blocks_more}
use Rattle.block_solves.proofs.cores.solve_blocks.Goals as goal

pub loop-j-init : goal.loop-j-init
loop-j-init c =
    let x = c.args in
    record { within = omega arith; y_len = refl; next_unit = unit-first x.sizes.now; solved = blocks-none x.sizes.now x.starts.now x.diag.now x.d.now x.y.now }

pub loop-j-preserved : goal.loop-j-preserved
loop-j-preserved c =
    let x = c.args in
    let l = c.loop-j in
    let b = c.solve_block-unit in
    record {
      within = omega (arith, c.loop-j-test.true);
      y_len = b.auto.y ∙ l.invariant.y_len;
      next_unit = b.ensures.value;
      solved = blocks_more x.sizes.now x.starts.now x.diag.now x.d.now l.j x.y.now l.y _ l.invariant.solved b.ensures.solves_block;
    }

pub solve_block-unit-requires-clause-fits : goal.solve_block-unit-requires-clause-fits
solve_block-unit-requires-clause-fits c =
    let l = c.loop-j in
    rw l.invariant.y_len (block_fits c.requires.1 c.requires.2 l.j l.unit c.loop-j-test.true l.invariant.next_unit)
