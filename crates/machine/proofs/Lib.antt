-- The theorems of the machine. Each module says at its top what it shows.
pub mod ListLaws
pub mod SystemLaws
pub mod StepLaws
pub mod RunLaws
pub mod StopLaws
pub mod Nights
pub mod ReachLocal
pub mod Local
pub mod RunLocal
