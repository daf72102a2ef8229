-- The laws of lines and of renderings.
pub mod Laws  -- lines piece by piece, and how long they are
pub mod Outcomes  -- what a rendering leaves
pub mod Examples  -- document 01's answer to the sheet of two blocks
