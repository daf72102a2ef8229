-- `solve_core::cores::substitute` meets its contract: forward, blocks, backward. Assumes nothing.
use Rattle.solve_core.proofs.cores.substitute.Goals as goal

pub returns : goal.returns
returns c col held x shown =
    c.backward.ensures col held.of_rows _ (c.solve_blocks.ensures col held.of_factors _ (c.forward.ensures col held.of_rows x shown))
