-- What belongs to no one function.
pub mod StepLaws  -- the two steps of the end of a column
pub mod FinishLaws  -- they are the machine's end of the column
