-- What belongs to no one function: the laws of verdicts and of checks.
pub mod Laws
