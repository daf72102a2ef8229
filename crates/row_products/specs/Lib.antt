-- The written definitions that the contracts cite.
pub mod Rows  -- the products of column j by some rows of column k
