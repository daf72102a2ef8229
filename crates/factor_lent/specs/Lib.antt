-- The written definitions that the contracts cite.
pub mod Room  -- how long each buffer is
