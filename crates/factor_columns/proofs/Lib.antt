-- What belongs to no one function.
pub mod RunLaws  -- where the loop ends is where the machine's run ends
