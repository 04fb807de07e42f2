-- The comparison of two stamps over plain numbers.
pub mod Ways
pub mod Answers
