-- The written definitions that the contracts cite.
pub mod Work  -- the next places, and the products of a column as the machine's
