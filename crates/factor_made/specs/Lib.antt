-- The written definitions that the contracts cite.
pub mod Made  -- the outputs of a factorization
