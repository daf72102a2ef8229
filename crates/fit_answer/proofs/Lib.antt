-- What belongs to no one function. Each module says at its top what it shows.
pub mod Laws  -- the text of a night, and of a sheet, by what was answered
pub mod Examples  -- document 01's sheet of two blocks, from its bytes to its lines
