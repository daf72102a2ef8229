-- The written definitions that the contracts cite.
pub mod Spoilt  -- numbers after a refusal
