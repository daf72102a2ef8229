-- What the contract of `check_solve` cites. Each module says at its top what it holds.
pub mod Verdict
pub mod Outcome
pub mod Sound
