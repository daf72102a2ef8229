-- What belongs to no one function. Each module says at its top what it shows.
pub mod Same  -- an upper pattern says the same of L as the links that it lists
pub mod Laws  -- what tables that pass give the passes, and what the passes leave
