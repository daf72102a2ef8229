-- What belongs to no one function: the verdict of each call, test by test.
pub mod UpperLaws
pub mod TreeLaws
