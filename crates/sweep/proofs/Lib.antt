-- What belongs to no one function.
pub mod SweepLaws  -- one row more
