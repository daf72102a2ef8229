-- What belongs to no one function. Each module says at its top what it shows.
pub mod Laws  -- permutations and their inverse, the two groups, and the loops' turns
