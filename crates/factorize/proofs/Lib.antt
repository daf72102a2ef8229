-- What belongs to no one function. Each module says at its top what it shows.
pub mod Laws  -- a call that is lent no cache
