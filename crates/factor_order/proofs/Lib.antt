-- The laws behind the contracts.
pub mod AreaLaws  -- the dimensions under the order of elimination
pub mod SameLaws  -- two tables are the same
pub mod OffsetLaws  -- the offsets, one block after the other
