-- The written definitions that the contracts cite.
pub mod Loop
pub mod Block
pub mod Scalar
