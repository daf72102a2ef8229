-- The written definitions that the contracts cite.
pub mod Fit  -- what `fit` prints for a sheet
