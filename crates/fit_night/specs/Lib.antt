-- The written definitions that the contracts cite.
pub mod Night  -- what a night within the rooms of `fit` answers, its solution and its marks
