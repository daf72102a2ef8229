-- The laws of the checks of a sheet.
pub mod Laws  -- what each check says
pub mod Sound  -- what a sheet that passes says
pub mod VerdictLaws  -- what is told, test by test
