-- What belongs to no one function.
pub mod BackwardLaws  -- the loops over rows and columns
