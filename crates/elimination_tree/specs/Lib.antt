-- The written definitions that the contracts cite.
pub mod Tree
pub mod New
