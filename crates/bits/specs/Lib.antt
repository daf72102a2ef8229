-- The written definitions that the contracts cite.
pub mod Bytes  -- numbers and floats that stand in bytes
