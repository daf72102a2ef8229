-- What belongs to no one function.
pub mod Parts  -- a part of a vector that loses its sums
