-- What belongs to no one function: which bits, and which floats, are a NaN.
pub mod Laws
