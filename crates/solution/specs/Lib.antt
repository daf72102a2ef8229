-- The written definitions that the contracts cite.
pub mod Solution  -- the solve on vectors by blocks, and the same with a right side in old order
pub mod Flat  -- the columns of a factor in its flat tables, and a vector by blocks in a flat list
