-- What belongs to no one function: the laws of the walk on lists, and of its turns.
pub mod Laws
pub mod Turns
pub mod WalkLaws  -- what `reach` answers in each case
