-- What belongs to no one function.
pub mod Laws  -- the analysis, and the outputs where the needs that only the plan shows are met or not
