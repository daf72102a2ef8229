-- What belongs to no one function: the laws of a buffer that was cleared.
pub mod Laws
