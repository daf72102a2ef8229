-- The written definitions that the contracts cite.
pub mod Float
pub mod Answers
