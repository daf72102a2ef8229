-- The written definitions that the contracts cite.
pub mod Reach  -- all products of column j
