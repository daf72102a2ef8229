-- What belongs to no one function. Each module says at its top what it shows.
pub mod Laws  -- the first buffer that is short decides
