-- The claim that covers the table.
pub mod Claim
