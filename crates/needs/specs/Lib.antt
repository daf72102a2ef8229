-- What the contracts of `needs` and of every call that is lent buffers cite.
pub mod Needs
