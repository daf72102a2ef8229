-- What belongs to no one function. Each module says at its top what it shows.
pub mod Laws  -- what the plan answers in exact buffers
