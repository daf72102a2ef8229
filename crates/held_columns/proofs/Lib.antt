-- What the flat lists of a factor hold. Each module says at its top what it shows.
pub mod Sized  -- every body, unit factor and d of the machine's columns has as many numbers as the dimensions say
pub mod Held  -- so each of them stands where the layout has it
