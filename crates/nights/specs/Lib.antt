-- Document 01's nights by hand.
pub mod Nights
