-- What belongs to no one function.
pub mod CoreLaws  -- from the tables to how the blocks lie, and from the parts of the solve to the whole
