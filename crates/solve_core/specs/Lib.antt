-- The written definitions that the contracts cite.
pub mod Core  -- what the solve needs, and what it promises
