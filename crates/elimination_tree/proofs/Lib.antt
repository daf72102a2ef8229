-- What belongs to no one function. Each module says at its top what it shows.
pub mod Laws  -- the tables as Liu's, and each step of his walk
pub mod Turns  -- the loops' invariants: how each begins, turns and ends
pub mod Links  -- the links of an upper pattern, and what the table of parents says of them
pub mod NewLaws  -- what a pattern that passes gives, and what `new` answers in each case
