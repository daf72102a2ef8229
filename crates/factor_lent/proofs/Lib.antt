-- What belongs to no one function. Each module says at its top what it shows.
pub mod Laws  -- the first places of each buffer, and those beyond
