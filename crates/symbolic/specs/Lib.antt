-- The written definitions that the contracts cite.
pub mod Columns
pub mod Davis
