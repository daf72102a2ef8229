-- The written definitions that the contracts cite.
pub mod Scratch  -- what is lent to a plan, before and after
