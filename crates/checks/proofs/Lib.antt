-- What belongs to no one function: the verdict of each call, test by test.
pub mod SystemLaws
pub mod PlanLaws
pub mod FactorLaws
