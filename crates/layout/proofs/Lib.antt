-- The laws of the layout.
pub mod DiagonalLaws  -- every unit factor and every d lies in its list, and no two overlap; the greatest dimension
pub mod RowLaws  -- the same of the blocks of L, and of those of the column being worked
pub mod Gathered  -- lists gathered one behind the other
pub mod PlanLaws  -- the tables of a plan are good, and their columns are those of L
pub mod FlatLaws  -- a flat list is its blocks, one behind the other
