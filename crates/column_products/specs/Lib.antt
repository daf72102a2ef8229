-- The written definitions that the contracts cite.
pub mod Columns  -- the finished columns in flat lists, and the products by one of them
