-- What belongs to no one function.
pub mod MarkLaws  -- the loops that write the marks
pub mod TestLaws  -- the answer, test by test
pub mod AnswerLaws  -- the answer in each case
