-- The written definitions that the contracts cite.
pub mod Fitted  -- what a factorization within the rooms of `fit` answers and leaves
