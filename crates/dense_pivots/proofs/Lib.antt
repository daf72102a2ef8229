-- What belongs to no one function: the laws of the account.
pub mod PivotLaws
