-- What belongs to no one function. Each module says at its top what it shows.
pub mod Lists  -- small laws on lists that the library lacks
pub mod Laws  -- the laws of buckets
pub mod Turns  -- the loops' invariants
pub mod Turned  -- the invariants of the passes that turn lists round
pub mod Totals  -- how many entries all buckets have together
