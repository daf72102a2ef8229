-- What belongs to no one function. Each module says at its top what it shows.
pub mod Laws  -- what the factorization answers where the tables decide, and how many products may be kept
