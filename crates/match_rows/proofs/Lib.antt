-- The laws behind the passes.
pub mod HalvedLaws  -- the rows of a column by their places
pub mod FoundLaws  -- what a search or a pass found
pub mod WalkLaws  -- the walk of two columns side by side
pub mod LowLaws  -- a pass that lowers the least column that lacks a row
pub mod ChildLaws  -- the child lists, and the stamps at the rows of the children
pub mod PairLaws  -- the pairs of A's stored blocks, and those of a column and its first row
pub mod StrayLaws  -- the stamps and the links say which rows are given
