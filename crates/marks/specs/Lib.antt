-- The written definitions that the contracts cite.
pub mod Mark  -- the mark of a scalar, and those of all
pub mod Marks  -- what the call answers, and what it leaves
