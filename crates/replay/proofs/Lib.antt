-- What belongs to no one function: the laws of single floats.
pub mod Laws
