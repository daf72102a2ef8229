-- The written definitions that the contracts cite.
pub mod Sweep  -- a sweep on a flat list
