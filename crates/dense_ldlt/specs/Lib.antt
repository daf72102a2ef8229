-- The written definitions that the contracts cite.
pub mod Ldlt
pub mod Decompose
