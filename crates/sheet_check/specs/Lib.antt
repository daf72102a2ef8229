-- What the contracts of `sheet_check` cite.
pub mod Checks  -- the checks of unpacked tables, in `fit`'s order
pub mod Sheet  -- a sheet's tables, and the verdict on its bytes
pub mod Outcome  -- what the outcome says
pub mod Sound  -- what a sheet that passes says
pub mod Tables
