-- The laws of bytes and tables.
pub mod Laws
