-- What belongs to no one function. Each module says at its top what it shows.
pub mod Laws  -- what an accepted factorization within rooms gives the solve
