-- What belongs to no one function.
pub mod RowLaws  -- a loop of block products by the rows of a column
