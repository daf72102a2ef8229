-- What belongs to no one function: the laws of loops and sizes, and those of single floats.
pub mod Laws
pub mod Floats
