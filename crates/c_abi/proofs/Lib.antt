-- What belongs to no one function.
pub mod Laws  -- an outcome and its number
