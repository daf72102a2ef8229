-- What the contracts of `sheet_unpack` cite.
pub mod Unpack
