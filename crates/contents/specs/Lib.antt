-- What the contracts of `contents` cite.
pub mod Contents
