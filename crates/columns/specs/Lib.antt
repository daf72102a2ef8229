-- What the contracts of `columns` cite.
pub mod Least
