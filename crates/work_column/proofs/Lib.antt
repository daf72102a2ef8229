-- What belongs to no one function.
pub mod NextLaws  -- the next places: where row j stands in an ascending column, and one further
pub mod WorkLaws  -- what the plan gives the products, and what they say of the machine
