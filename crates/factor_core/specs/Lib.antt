-- The written definitions that the contracts cite.
pub mod Factorize  -- what a factorization answers, and what it leaves in every lent place
pub mod Written  -- its outputs before the scratch is cleared
pub mod Cache  -- one more buffer, for products that are kept
