-- What the contracts of `checks` cite.
pub mod Outcome
