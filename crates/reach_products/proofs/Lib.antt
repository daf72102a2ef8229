-- What belongs to no one function.
pub mod ReachLaws  -- a loop over the columns that reach a column
