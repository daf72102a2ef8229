-- What belongs to no one function.
pub mod StopLaws  -- where the machine stops, it refuses
pub mod FitLaws  -- the needs that only the plan shows
pub mod CacheLaws  -- the cache's need and what is left in it
pub mod ErrorLaws  -- what the refusals say
