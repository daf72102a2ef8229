-- What the contracts of every crate cite of a refusal.
pub mod Refusal
pub mod Check
pub mod Shaped
