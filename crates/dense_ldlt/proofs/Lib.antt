-- What belongs to no one function: the laws of one row, and of the verdict.
pub mod RowLaws
pub mod VerdictLaws
