-- The written definitions that the contracts cite.
pub mod Finish  -- how flat lists hold the finished columns, and how a column ends on them
pub mod Steps  -- its two steps: the diagonal block, and the rows
