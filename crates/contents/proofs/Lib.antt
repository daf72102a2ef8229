-- The laws of the contents.
pub mod Laws
