-- The written definitions that the contracts cite.
pub mod Backward  -- the backward part of the solve on a flat list
