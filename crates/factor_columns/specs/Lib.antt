-- The written definitions that the contracts cite.
pub mod Columns  -- how the loop over the columns ends
