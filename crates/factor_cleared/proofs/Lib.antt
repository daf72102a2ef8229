-- What belongs to no one function.
pub mod CoreLaws  -- the outputs with the scratch cleared are what is promised
