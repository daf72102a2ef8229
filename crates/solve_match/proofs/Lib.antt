-- The laws behind the contracts.
pub mod MatchLaws  -- what each check says where its test fails, and where it holds
pub mod TestLaws  -- the verdicts, test by test
pub mod Fresh  -- 12 passes exactly the factors that are not stale
pub mod Examples  -- document 01's two-block sheet
