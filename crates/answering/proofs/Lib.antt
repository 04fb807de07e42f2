-- Laws of one line.
pub mod Answered
