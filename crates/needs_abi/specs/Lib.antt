-- The written definitions that the contracts cite, and the claims.
pub mod Needs  -- the needs of each call, and what is told of them
pub mod Outcome  -- what the answer of the checks says
pub mod Enough  -- buffers that have the needs are never refused by 11
