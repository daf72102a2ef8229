-- The laws of readings of a sheet.
pub mod Laws  -- what is told, and what is left in what is lent
pub mod Enough  -- how many bytes decide
pub mod Examples  -- document 01's sheet of two blocks
