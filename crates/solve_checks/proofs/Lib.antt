-- The laws behind the contract.
pub mod CheckLaws  -- what each check of a factor's table says
pub mod SolveLaws  -- the verdict, test by test
pub mod Sound  -- tables that pass are sound
pub mod Examples  -- how a parent out of its range is told
