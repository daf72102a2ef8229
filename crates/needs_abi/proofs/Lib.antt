-- What belongs to no one function. Each module says at its top what it shows.
pub mod Laws  -- the needs that an empty buffer tells, and the bound on a cache
pub mod Enough  -- buffers that have the needs are never refused by 11
