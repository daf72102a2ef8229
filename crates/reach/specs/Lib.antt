-- The written definitions that the contracts cite.
pub mod Reach
pub mod Walk
