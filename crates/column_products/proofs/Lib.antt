-- What belongs to no one function.
pub mod ColumnLaws  -- one column's places of the tables as lent parts
