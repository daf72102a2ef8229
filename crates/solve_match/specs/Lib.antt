-- What the contracts cite. Each module says at its top what it holds.
pub mod Verdict
pub mod Outcome
pub mod Fresh
