-- The plain machine of document 01, module 7, and what is claimed of it.
pub mod System  -- what it is fed with, and a block of it as it is loaded
pub mod Machine  -- its state, its steps, its run
pub mod Claims  -- demand 3, and the law of locality
pub mod Nights  -- document 01's nights by hand
