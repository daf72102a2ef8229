-- What belongs to no one function: the laws of the verdict.
pub mod VerdictLaws
