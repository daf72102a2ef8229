-- What belongs to no one function.
pub mod TurnLaws  -- a column loaded, worked and finished is the machine's column
pub mod KeptLaws  -- the cache after one column more
