-- What belongs to no one function.
pub mod KeepLaws  -- a row, and the rows so far
