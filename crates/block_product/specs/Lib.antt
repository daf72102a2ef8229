-- The written definitions that the contracts cite.
pub mod Working  -- how a flat list holds the column being worked, and what one block product promises
