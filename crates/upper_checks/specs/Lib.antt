-- What the contracts of `upper_checks` cite.
pub mod Outcome
