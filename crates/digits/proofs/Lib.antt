-- The laws of texts in a buffer.
pub mod Laws
