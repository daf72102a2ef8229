-- The written definitions that the contracts cite.
pub mod Scalars  -- where the scalars of each block begin, and the old number of each new one
pub mod Bodies  -- the bodies of A's blocks, and the same under new numbers
