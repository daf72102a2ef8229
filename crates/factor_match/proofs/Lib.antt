-- The laws behind the match.
pub mod ChildLaws  -- a column of L is its links and its children's rows
pub mod MatchLaws  -- where the lowest answer of the passes is the first wrong column
pub mod SameLaws  -- Same exactly where the tables are those of the plan
pub mod Examples  -- night P1 of document 01
