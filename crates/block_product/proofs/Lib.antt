-- What belongs to no one function.
pub mod SlotLaws  -- a slot of a flat list, read and written
pub mod WorkingLaws  -- the machine's step on the flat list
