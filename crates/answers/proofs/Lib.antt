-- The answers of a pattern: a test that runs, that no second result fits, and the laws that the two passes cite. Assumes nothing.
pub mod Tested
pub mod Unique
pub mod Downward
pub mod TurnDown
pub mod AnswerList
pub mod Finding
