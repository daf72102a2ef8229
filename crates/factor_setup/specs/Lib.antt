-- The written definitions that the contracts cite.
pub mod Exact  -- the tables and the flat lists of a factor, for the system that it is made from
pub mod Lent  -- what a factor is made in
