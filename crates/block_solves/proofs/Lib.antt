-- What belongs to no one function.
pub mod BlockLaws  -- one block, and the loop over the blocks
