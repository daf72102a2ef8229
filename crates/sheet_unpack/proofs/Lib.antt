-- The laws of unpacked tables.
pub mod Laws
