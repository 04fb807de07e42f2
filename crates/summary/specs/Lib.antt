-- The summary of a book, and what may is answered by it.
pub mod Summary
pub mod May
pub mod Lanes
