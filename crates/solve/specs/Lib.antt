-- What the contracts cite.
pub mod Solve  -- what the call answers, and what it leaves
