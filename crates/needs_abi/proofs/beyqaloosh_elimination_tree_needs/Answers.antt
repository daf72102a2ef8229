-- `needs_abi::beyqaloosh_elimination_tree_needs` meets its contract: of an empty buffer each check tells the blocks. Assumes nothing.
use Rattle.needs_abi.proofs.Laws.{same-needs, each_tells}
use Rattle.needs_abi.proofs.beyqaloosh_elimination_tree_needs.Goals as goal

pub returns : goal.returns
returns c = same-needs (each_tells _) c.each_block.ensures
