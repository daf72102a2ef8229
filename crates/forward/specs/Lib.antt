-- The written definitions that the contracts cite.
pub mod Forward  -- the forward part of the solve on a flat list
