-- The laws of the solve.
pub mod RowLaws  -- rows one after the other
pub mod VectorLaws  -- a vector by blocks in a flat list, read and written
pub mod ColumnLaws  -- the flat tables hold their columns, and the machine's
pub mod EdgeLaws  -- a right side by new number, and back
