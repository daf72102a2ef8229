-- What the checks of tables cite. Each module says at its top what it holds.
pub mod Search
pub mod Verdict
pub mod Sound
