-- The claims.
pub mod Accepted  -- what a solve never refuses
