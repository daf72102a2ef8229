-- What belongs to no one function. Each module says at its top what it shows.
pub mod SetupLaws  -- what the analysis gives the tables, and what the tables are of the system
