-- What belongs to no one function. Each module says at its top what it shows.
pub mod Laws  -- within the rooms only L's values can be short
