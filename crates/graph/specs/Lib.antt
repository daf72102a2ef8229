-- The definitions of the elimination theory. Each module says what it holds at its top.
pub mod Sets
pub mod Links
pub mod Order
pub mod Path
pub mod Fill
pub mod Tree
pub mod Symbolic
pub mod Count
pub mod Liu
