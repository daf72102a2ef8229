-- The written definitions that the contracts cite.
pub mod Blocks  -- the blocks of the solve on a flat list
