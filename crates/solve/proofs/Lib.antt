-- The laws behind the contracts.
pub mod CallLaws  -- the verdict, test by test
pub mod Laws  -- what an accepted verdict gives the core, and the answer where it passes
