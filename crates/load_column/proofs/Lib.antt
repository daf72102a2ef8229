-- What belongs to no one function.
pub mod FindLaws  -- the search by halving
pub mod BodyLaws  -- the loops that load a body
pub mod StoredLaws  -- A's block, stored or not
pub mod SourceLaws  -- what a column is loaded from
pub mod ColumnLaws  -- the loop over a column's rows
pub mod MeaningLaws  -- what is loaded is what the machine loads
