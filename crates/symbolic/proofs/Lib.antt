-- What belongs to no one function. Each module says at its top what it shows.
pub mod Climbs  -- the climbs that count or store what they find
pub mod Walks  -- the walk over stamps is the theory's walk
pub mod Columns  -- the passes make the theory's columns
pub mod Passes  -- the invariants of the two passes
pub mod Numbers  -- the sums of the counting pass
pub mod Davis  -- the public walk over the tree's parents finds Davis's reach
