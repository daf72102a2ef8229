-- What belongs to no one function. Each module says at its top what it shows.
pub mod Laws  -- what a refused plan answers, and longer buffers
