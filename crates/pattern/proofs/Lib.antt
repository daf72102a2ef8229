-- What belongs to no one function. Each module says at its top what it shows.
pub mod Turns  -- the invariants of the loops over a column
pub mod Passes  -- the invariants of the passes over the columns
pub mod Totals  -- the buckets have no more entries than A has blocks
pub mod Good  -- what the buckets hold: the links of the permuted matrix, each once
