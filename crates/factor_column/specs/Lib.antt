-- The written definitions that the contracts cite.
pub mod Turn  -- the flat lists after some columns, and one column more
