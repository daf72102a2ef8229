-- The written definitions that the contracts cite.
pub mod Given  -- what the tables of a factorization are made from
