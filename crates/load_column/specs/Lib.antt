-- The written definitions that the contracts cite.
pub mod Load  -- what a column is loaded from, and what is loaded
pub mod Blocks  -- one block of it, from A's tables
