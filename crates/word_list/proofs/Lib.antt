-- What belongs to no one function: the laws of several tests together.
pub mod Laws
