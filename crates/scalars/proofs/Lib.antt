-- What belongs to no one function. Each module says at its top what it shows.
pub mod Filling  -- a loop that writes a list from its first place on
pub mod ScalarLaws  -- the scalar permutation is one; its entries
pub mod BodyLaws  -- bodies lie one behind the other; the transpose by its entries
pub mod PlaceLaws  -- where a block is stored, and its body, by new numbers
