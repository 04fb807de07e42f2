-- The laws of stamp records and of the calls off the book.
pub mod Records
pub mod Counts
pub mod Answered
pub mod Once
pub mod Handed
