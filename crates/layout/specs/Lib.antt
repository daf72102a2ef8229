-- The written definitions that the contracts cite.
pub mod Layout  -- where the blocks of a factor lie, and those of the column being worked
