-- The written definitions that the contracts cite.
pub mod Match  -- the first wrong column of a factor, and its kind
