-- What belongs to no one function. Each module says at its top what it shows.
pub mod Bools
pub mod SearchLaws
pub mod FaultLaws
pub mod ColumnLaws
pub mod MarkLaws
pub mod TableLaws
pub mod AreaLaws
pub mod CheckLaws
pub mod PassLaws
pub mod Sound
pub mod Examples
