-- What belongs to no one function.
pub mod LinkLaws  -- an upper pattern gives the products of each column as the links that it lists
pub mod ExactLaws  -- what the tables give the loop over the columns, and what it leaves
