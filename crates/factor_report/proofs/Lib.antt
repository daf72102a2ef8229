-- What belongs to no one function.
pub mod PlacesLaws  -- what is lent, buffer by buffer
