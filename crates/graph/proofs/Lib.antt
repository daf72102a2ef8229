-- The theorems of the elimination theory. Each module says at its top what it shows.
pub mod SetLaws
pub mod OrderLaws
pub mod FillPath
pub mod ReachLaws
pub mod SymbolicLaws
pub mod LiuLaws
pub mod TreeLaws
pub mod DavisLaws
pub mod SumLaws
pub mod CountLaws
pub mod BoundLaws
pub mod Whole
