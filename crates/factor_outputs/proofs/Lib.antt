-- What belongs to no one function.
pub mod Laws  -- a factorization in the first places of longer outputs is one in the whole
