-- What belongs to no one function.
pub mod Substitution  -- substitutions from the right, by entries
pub mod Tiles  -- rows written into a column, and how far a tile is
