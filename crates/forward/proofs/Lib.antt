-- What belongs to no one function.
pub mod ForwardLaws  -- the loops over rows and columns
