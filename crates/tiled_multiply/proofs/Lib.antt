-- What belongs to no one function.
pub mod GridLaws  -- a product of blocks by its entries
