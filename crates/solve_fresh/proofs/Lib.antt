-- The laws behind the claims.
pub mod PassLaws  -- a list of checks of which none refuses passes
pub mod ColumnLaws  -- good columns pass the checks of a factor's table
pub mod TreeLaws  -- the parents of an elimination tree pass the check of parents
pub mod Accepted  -- both claims
