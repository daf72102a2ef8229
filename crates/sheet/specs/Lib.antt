-- What the contracts of `sheet` cite.
pub mod Reads
