-- The laws of a comparison's answers.
pub mod Answers
